-- `order::Table::synth_lives` meets its contract. The invariant: what is left to search is what there was to search.
use mathlib.Core.Path.{◌≡◌}
use lib.ListN.{drop}
use Rattle.order.specs.Tables.{rows_of}
use Rattle.nodes.specs.Formed.{synth_lives}
use Rattle.order.proofs.Table.synth_lives.Given as goal

abbrev pub invariant-loop-i : goal.invariant-loop-i
invariant-loop-i l = (synth_lives l.number (drop l.i (rows_of l.self)) ≡ synth_lives l.number (rows_of l.self))
