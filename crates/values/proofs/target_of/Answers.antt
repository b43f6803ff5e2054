use Prim.Native.Nat.{◌<◌}
use mathlib.Core.Path.{sym}
use native.Mathlib.Omega.{arith}
use Rattle.values.specs.TargetsLaws.{target_number, target_latest, target_reserved}
use Rattle.values.proofs.target_of.Goals as goal

pub returns-then-number-lt2147483648 : goal.returns-then-number-lt2147483648
returns-then-number-lt2147483648 c = sym (target_number c.args.number c.if-number-lt2147483648.true)

pub returns-then-number-eq-MINUS_ONE : goal.returns-then-number-eq-MINUS_ONE
returns-then-number-eq-MINUS_ONE c = rw c.if-number-eq-MINUS_ONE.true (sym target_latest)

pub returns : goal.returns
returns c = let l : c.args.number < 4294967295 = omega (arith, c.ranges.number.fits) in sym (target_reserved c.args.number c.if-number-lt2147483648.false l)
