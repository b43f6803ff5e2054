use Rattle.treequery.specs.Places.{nowhere}
use Rattle.treequery.specs.Counting.{Counting}
use Rattle.treequery.specs.Rows.{left_rows}
use Rattle.treequery.proofs.count.count_tree.Given as goal

abbrev pub invariant-loop-i : goal.invariant-loop-i
invariant-loop-i l =
    Counting nowhere (left_rows l.shown l.words l.arena l.end l.from) l.next (left_rows l.shown l.words l.arena l.end l.i)
