-- `order::Table::visit` meets its contract. The invariant: the marks set so far with those of the rest are the marks of the whole walk (`Walked`).
use Prim.Native.Nat.{◌≤◌}
use Rattle.order.specs.Tables.{rows_of}
use Rattle.order.specs.Visits.{Walked}
use lib.ListN.{drop}
use Rattle.order.proofs.Table.visit.Given as goal

abbrev pub invariant-loop-i : goal.invariant-loop-i
invariant-loop-i l = (l.limit ≤ l.i) × Walked (rows_of l.self) (drop l.i (rows_of l.self)) l.limit l.i l.visited
