-- `order::Table::rows_apart` meets its contract. The invariant: what the marks say of the rest is what they say of all (`pass`).
use mathlib.Core.Path.{◌≡◌}
use Rattle.order.specs.Tables.{rows_of}
use Rattle.order.specs.Marks.{rows_hold, pass}
use lib.ListN.{drop}
use Rattle.order.proofs.Table.rows_apart.Given as goal

abbrev pub invariant-loop-i : goal.invariant-loop-i
invariant-loop-i l = pass l.seen (drop l.i (rows_of l.self)) ≡ rows_hold (rows_of l.self)
