-- The bytes from here on are the same.
use Rattle.std.proofs.Common.{◌≡◌, true, drop}
use Rattle.format.specs.Reader.{same_name}
use Rattle.fields.proofs.name.same_run.Given as goal

abbrev pub invariant-loop-i : goal.invariant-loop-i
invariant-loop-i l = same_name (drop l.i l.a) (drop l.i l.b) ≡ true
