use Rattle.words.specs.Choice.{both}
use Rattle.model.specs.Formed.{mappings_formed}
use Prim.Native.Nat.{◌*◌, ◌-◌}
use mathlib.Core.Path.{◌≡◌}
use lib.ListN.{drop}
use Rattle.controls.proofs.synth.row_formed.Given as goal

abbrev pub invariant-loop-i : goal.invariant-loop-i
invariant-loop-i l = both l.formed (mappings_formed (l.end - l.i) (drop (2 * l.i) (drop (64 * l.row) l.controls))) ≡ mappings_formed l.end (drop (64 * l.row) l.controls)
