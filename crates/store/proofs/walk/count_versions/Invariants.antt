-- `store::walk::count_versions` meets its contract. The invariant: those that were counted and those that are left are all.
use Prim.Native.Nat.{◌-◌, ◌≤◌}
use lib.ListN.{length}
use Rattle.store.specs.Ahead.{VersionsAhead}
use Rattle.store.specs.VersionWalkLaws.{CountStands}
use Rattle.store.proofs.walk.count_versions.Given as goal

abbrev pub invariant-loop-i : goal.invariant-loop-i
invariant-loop-i l = (l.i ≤ length l.store) × (l.count ≤ l.i) × ((p : VersionsAhead l.store l.at) → CountStands l.store l.at p l.i l.count)

abbrev pub decreases-loop-i : goal.decreases-loop-i
decreases-loop-i l = length l.store - l.i
