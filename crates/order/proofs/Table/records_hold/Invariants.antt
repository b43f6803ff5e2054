-- `order::Table::records_hold` meets its contract. The invariant: what is left to check is what there was to check.
use mathlib.Core.Path.{◌≡◌}
use lib.ListN.{drop}
use Rattle.order.specs.Tables.{rows_of}
use Rattle.nodes.specs.Formed.{all_formed}
use Rattle.order.proofs.Table.records_hold.Given as goal

abbrev pub invariant-loop-i : goal.invariant-loop-i
invariant-loop-i l = (all_formed l.next (drop l.i (rows_of l.self)) ≡ all_formed l.next (rows_of l.self))
