use Prim.Native.Nat.{◌*◌}
use mathlib.Core.Path.{◌≡◌}
use lib.ListN.{length}
use lib.Seq.{paste}
use Rattle.model.specs.Effects.{initial_words}
use Rattle.controls.specs.Initial.{floats_from}
use Rattle.controls.proofs.definition.write_initial.Given as goal

abbrev pub invariant-loop-i : goal.invariant-loop-i
invariant-loop-i l = (l.controls ≡ paste l.initial.controls l.at (initial_words (floats_from l.s l.count l.start)) (2 * l.i)) × (length l.controls ≡ length l.initial.controls)
