-- `order::running_order` meets its contract. The invariant: the numbers found so far with those that the marks give of the rest are the order
-- (`OrderSoFar`).
use Prim.Native.Nat.{◌≤◌}
use Rattle.nodes.specs.Table.{rows}
use Rattle.order.specs.Order.{OrderSoFar}
use lib.ListN.{drop}
use Rattle.order.proofs.running_order.Given as goal

abbrev pub invariant-loop-i : goal.invariant-loop-i
invariant-loop-i l = (l.length ≤ l.i) × OrderSoFar (rows l.count l.nodes) (drop l.i l.visited) (drop l.i (rows l.count l.nodes)) l.length l.numbers
