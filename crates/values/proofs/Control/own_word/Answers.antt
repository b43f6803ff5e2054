use mathlib.Core.Path.{sym, ◌∙◌}
use Rattle.values.specs.ControlLaws.{seen_nan, seen_number, nan_pattern, no_nan}
use Rattle.values.proofs.Control.own_word.Goals as goal

pub returns-then-self-ne0 : goal.returns-then-self-ne0
returns-then-self-ne0 c = sym (seen_nan c.args.self c.if-self-ne0.true)

pub returns-then-own : goal.returns-then-own
returns-then-own c = sym (seen_number c.args.self c.if-self-ne0.false ∙ nan_pattern c.args.self.own c.if-own.true)

pub float_to_bits-result : goal.float_to_bits-result
float_to_bits-result c = no_nan c.args.self.own c.if-own.false

pub returns : goal.returns
returns c = sym (seen_number c.args.self c.if-self-ne0.false)
