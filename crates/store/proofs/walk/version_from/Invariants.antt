-- `store::walk::version_from` meets its contract. The invariant: the versions that were passed have other numbers.
use Prim.Native.Nat.{◌-◌, ◌≤◌}
use lib.ListN.{length}
use Rattle.store.specs.Ahead.{VersionsAhead}
use Rattle.store.specs.VersionWalkLaws.{SearchStands}
use Rattle.store.proofs.walk.version_from.Given as goal

abbrev pub invariant-loop-from : goal.invariant-loop-from
invariant-loop-from l = (l.from ≤ length l.store) × ((p : VersionsAhead l.store l.at) → SearchStands l.store l.at l.number p l.from)

abbrev pub decreases-loop-from : goal.decreases-loop-from
decreases-loop-from l = length l.store - l.from
