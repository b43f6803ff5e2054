-- `store::find::past_tags` meets its contract. The invariant: whatever fields stand from the first place on, the walk from here ends where theirs does.
use Prim.Native.Nat.{◌-◌}
use mathlib.Core.List.{List}
use lib.ListN.{length}
use Rattle.tagged.specs.Fields.{Field}
use Rattle.store.specs.Ahead.{FieldsAhead}
use Rattle.store.specs.AheadLaws.{Walked}
use Rattle.store.proofs.find.past_tags.Given as goal

abbrev pub invariant-loop-end : goal.invariant-loop-end
invariant-loop-end l = (fs : List Field) → FieldsAhead l.store l.at fs → Walked l.lowest l.store l.at fs l.end

abbrev pub decreases-loop-end : goal.decreases-loop-end
decreases-loop-end l = length l.store - l.end
