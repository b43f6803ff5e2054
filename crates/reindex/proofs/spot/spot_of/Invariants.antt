-- `reindex::spot::spot_of` meets its contract. The invariant: below the one bound no number is higher, and from the other on all are.
use Prim.Native.Nat.{◌-◌, ◌≤◌}
use Rattle.reindex.specs.Spot.{Between}
use Rattle.reindex.proofs.spot.spot_of.Given as goal

abbrev pub invariant-loop-low : goal.invariant-loop-low
invariant-loop-low l = (l.low ≤ l.high) × Between l.nodes l.index l.count l.number l.low l.high

abbrev pub decreases-loop-low : goal.decreases-loop-low
decreases-loop-low l = l.high - l.low
