-- The rows of a table in lent words.
use Rattle.std.specs.Prelude.{List}
use Rattle.nodes.specs.declared.Node.{Node}
use Rattle.nodes.specs.Table.{rows}
use Rattle.order.specs.declared.Table.{Table}

abbrev pub rows_of : Table → List Node
rows_of t = rows t.count t.nodes.now
