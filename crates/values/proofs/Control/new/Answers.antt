use Rattle.values.specs.ControlLaws.{holds_nan, holds_number, no_nan_below}
use Rattle.values.proofs.Control.new.Goals as goal

pub returns-then-own-gt2139095040 : goal.returns-then-own-gt2139095040
returns-then-own-gt2139095040 c = holds_nan c.args.own c.args.mapping c.if-own-gt2139095040.true

pub float_from_bits-result : goal.float_from_bits-result
float_from_bits-result c = no_nan_below c.args.own c.if-own-gt2139095040.false

pub returns : goal.returns
returns c = holds_number c.args.own c.args.mapping c.ranges.own.fits c.if-own-gt2139095040.false
