use Rattle.treequery.specs.Writing.{Left}
use Rattle.treequery.specs.Rows.{left_rows}
use Rattle.treequery.proofs.write.put_tree.Given as goal

abbrev pub invariant-loop-i : goal.invariant-loop-i
invariant-loop-i l =
    Left l.initial.next (left_rows l.shown l.words l.arena l.end l.from) l.initial.out l.next (left_rows l.shown l.words l.arena l.end l.i) l.out
