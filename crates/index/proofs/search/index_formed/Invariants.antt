-- `index::search::index_formed` meets its contract. The invariant: the rest of the entries keep the rule from here on if all do from the first.
use Rattle.std.proofs.Common.{◌≡◌, ◌≤◌, take, drop}
use Rattle.nodes.specs.Table.{rows, numbers}
use Rattle.index.specs.Index.{rises, indexed}
use Rattle.index.proofs.search.index_formed.Given as goal

abbrev pub invariant-loop-entry : goal.invariant-loop-entry
invariant-loop-entry l = (l.least ≤ 4294967296) × (rises (numbers (rows l.count l.nodes)) l.count l.least (drop l.entry-index (take l.count l.index)) ≡ indexed (take l.count l.index) (rows l.count l.nodes))
