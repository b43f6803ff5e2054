-- What was compared and what is left are the same together where the parts are.
use Rattle.std.proofs.Common.{◌≡◌, drop}
use Rattle.words.specs.Choice.{both}
use Rattle.format.specs.Reader.{same_name}
use Rattle.fields.proofs.name.same_part.Given as goal

abbrev pub invariant-loop-i : goal.invariant-loop-i
invariant-loop-i l = both l.same (same_name (drop l.i l.a) (drop l.i l.b)) ≡ same_name l.a l.b
