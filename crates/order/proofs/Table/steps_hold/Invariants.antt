-- `order::Table::steps_hold` meets its contract. The invariant: what is left to check, with how deep the next record may be, is what there was to check.
use Prim.Native.Nat.{◌≤◌}
use mathlib.Core.Path.{◌≡◌}
use lib.ListN.{drop}
use Rattle.order.specs.Tables.{rows_of}
use Rattle.nodes.specs.Formed.{steps}
use Rattle.order.proofs.Table.steps_hold.Given as goal

abbrev pub invariant-loop-i : goal.invariant-loop-i
invariant-loop-i l = (l.most ≤ l.i) × (steps l.most (drop l.i (rows_of l.self)) ≡ steps 1 (drop 1 (rows_of l.self)))
