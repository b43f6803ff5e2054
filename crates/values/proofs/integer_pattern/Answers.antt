use Prim.Native.Nat.{◌+◌, ◌-◌}
use mathlib.Core.Path.{refl, sym}
use native.Mathlib.Omega.{arith}
use Rattle.values.specs.ValueLaws.{in-float, positive_no_nan, negative_no_nan, negated, small_integer, small_negative, large_integer}
use Rattle.values.proofs.integer_pattern.Goals as goal

pub int_to_float-number : goal.int_to_float-number
int_to_float-number c = in-float c.args.integer c.if-integer-le16777216.true

pub float_to_bits-result : goal.float_to_bits-result
float_to_bits-result c = positive_no_nan c.args.integer c.if-integer-le16777216.true

pub returns-then-integer-le16777216 : goal.returns-then-integer-le16777216
returns-then-integer-le16777216 c = sym (small_integer c.args.integer c.if-integer-le16777216.true)

pub returns-then-integer-lt4278190080 : goal.returns-then-integer-lt4278190080
returns-then-integer-lt4278190080 c = sym (large_integer c.args.integer c.if-integer-le16777216.false c.if-integer-lt4278190080.true)

pub int_to_float-number-2 : goal.int_to_float-number-2
int_to_float-number-2 c = in-float (4294967295 - c.args.integer + 1) (omega arith)

pub float_to_bits-result-2 : goal.float_to_bits-result-2
float_to_bits-result-2 c = rw (negated (4294967295 - c.args.integer)) (negative_no_nan (4294967295 - c.args.integer) (omega arith))

pub returns : goal.returns
returns c = rw (negated (4294967295 - c.args.integer)) (sym (small_negative c.args.integer (4294967295 - c.args.integer) c.if-integer-lt4278190080.false refl))
