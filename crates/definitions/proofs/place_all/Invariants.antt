use Rattle.definitions.specs.Loading.{Loading}
use Prim.Native.Nat.{◌-◌}
use lib.ListN.{length}
use Rattle.definitions.proofs.place_all.Given as goal

abbrev pub invariant-loop-at : goal.invariant-loop-at
invariant-loop-at l = Loading l.initial.table l.initial.arena l.file l.held l.at l.table l.arena

abbrev pub decreases-loop-at : goal.decreases-loop-at
decreases-loop-at l = length l.file - l.at
