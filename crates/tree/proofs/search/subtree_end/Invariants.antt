-- `tree::search::subtree_end` meets its contract. The invariant: the run goes on from i.
use Prim.Native.Nat.{◌+◌}
use mathlib.Core.Path.{◌≡◌}
use lib.ListN.{drop}
use Rattle.nodes.specs.Table.{rows}
use Rattle.nodes.specs.Place.{deeper}
use Rattle.tree.proofs.search.subtree_end.Given as goal

abbrev pub invariant-loop-i : goal.invariant-loop-i
invariant-loop-i l = l.i + deeper l.depth (drop l.i (rows l.count l.nodes)) ≡ l.at + 1 + deeper l.depth (drop (l.at + 1) (rows l.count l.nodes))
