-- `reindex::kept::kept_places` meets its contract. The invariant: the nodes of the places gone over are sifted.
use Prim.Native.Nat.{◌≤◌}
use Rattle.nodes.specs.Table.{rows}
use Rattle.reindex.specs.Kept.{Sifted}
use Rattle.reindex.proofs.kept.kept_places.Given as goal

abbrev pub invariant-loop-i : goal.invariant-loop-i
invariant-loop-i l = (l.next ≤ l.i) × Sifted l.from l.to (rows l.count l.nodes) l.i l.next l.places
