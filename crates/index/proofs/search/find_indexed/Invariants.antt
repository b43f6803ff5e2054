-- `index::search::find_indexed` meets its contract. The invariant: what is known is what so many steps of the lookup say.
use Rattle.std.proofs.Common.{◌≡◌, take}
use Rattle.nodes.specs.Table.{rows}
use Rattle.index.specs.Lookup.{lookup}
use Rattle.index.proofs.search.find_indexed.Given as goal

abbrev pub invariant-loop : goal.invariant-loop
invariant-loop l = l.known ≡ lookup l.counter l.number (take l.count l.index) (rows l.count l.nodes)
