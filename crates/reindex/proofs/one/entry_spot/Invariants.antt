-- `reindex::one::entry_spot` meets its contract. The invariant: an entry gone over that is the place is at the sum, and where none is, the sum is 0.
use Prim.Native.Nat.{◌≤◌}
use Rattle.reindex.specs.OneEntry.{Summed}
use Rattle.reindex.proofs.one.entry_spot.Given as goal

abbrev pub invariant-loop-i : goal.invariant-loop-i
invariant-loop-i l = (l.spot ≤ l.i) × Summed l.index l.place l.i l.spot
