use Rattle.definitions.specs.Naming.{Naming}
use Prim.Native.Nat.{◌-◌}
use lib.ListN.{length}
use Rattle.definitions.proofs.named_slots.Given as goal

abbrev pub invariant-loop-at : goal.invariant-loop-at
invariant-loop-at l = Naming l.table l.arena l.file l.at l.marks

abbrev pub decreases-loop-at : goal.decreases-loop-at
decreases-loop-at l = length l.file - l.at
