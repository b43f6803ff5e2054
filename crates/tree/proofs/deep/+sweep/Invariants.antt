-- A cycle of one, whose measure is the number of nodes still allowed. The invariant: a sweep of the rest, from the present places and words,
-- leaves what the whole sweep leaves.
use Rattle.std.proofs.Common.{◌≡◌, ℕ, ◌-◌, ◌≤◌, List, length}
use Rattle.tree.specs.Sweep.{Swept}
use Rattle.tree.proofs.deep.+sweep.Given as goal

abbrev pub decreases-sweep : goal.decreases-sweep
decreases-sweep l = l.left

abbrev pub invariant-loop-read : goal.invariant-loop-read
invariant-loop-read l =
    (l.from ≤ l.read)
    × (l.read ≤ l.count)
    × (l.write ≤ l.read)
    × (length l.nodes ≡ length l.initial.nodes)
    × ((ws : List ℕ) (r w : ℕ) → Swept l.nodes l.count l.read l.write l.depth ws r w → Swept l.initial.nodes l.count l.from l.to l.depth ws r w)

abbrev pub decreases-loop-read : goal.decreases-loop-read
decreases-loop-read l = l.count - l.read
