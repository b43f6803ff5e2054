use Prim.Native.Nat.{◌+◌, ◌<◌}
use native.Mathlib.Omega.{arith}
use Rattle.treequery.specs.RowArguments.{row_arguments, rows_turn, rows_none}
use Rattle.treequery.specs.Counting.{counts_first, counted_all, counting_all, counting_some, counting_less, counting_none}
use Rattle.treequery.specs.Rows.{left_rows, row_of, rows_few}
use Rattle.treequery.proofs.count.count_tree.Goals as goal

pub loop-i-init : goal.loop-i-init
loop-i-init c =
    let all = left_rows c.args.shown c.args.words.now c.args.arena.now c.args.end c.args.from in
    (counting_all (counts_first all (rows_few c.args.shown c.args.words.now c.args.arena.now c.args.from c.args.end c.requires.run)))

pub count_row-next-requires : goal.count_row-next-requires
count_row-next-requires c =
    let ws = c.args.words.now in
    let bs = c.args.arena.now in
    let shown = c.args.shown in
    let end = c.args.end in
    let i = c.loop-i.i in
    let inv = c.loop-i.invariant in
    let less : i < end = omega arith in
    (row_of shown ws bs c.args.shapes.now c.args.from end i c.requires (omega arith) less, counting_some (row_arguments shown ws bs end i) (left_rows shown ws bs end (i + 1)) inv (rows_turn shown ws bs end i less))

pub loop-i-preserved : goal.loop-i-preserved
loop-i-preserved c =
    let ws = c.args.words.now in
    let bs = c.args.arena.now in
    let shown = c.args.shown in
    let end = c.args.end in
    let i = c.loop-i.i in
    let inv = c.loop-i.invariant in
    let less : i < end = omega arith in
    (counting_less (row_arguments shown ws bs end i) (left_rows shown ws bs end (i + 1)) inv (rows_turn shown ws bs end i less) c.count_row-next.ensures)

pub returns : goal.returns
returns c =
    let ws = c.args.words.now in
    let bs = c.args.arena.now in
    let shown = c.args.shown in
    let end = c.args.end in
    let i = c.loop-i.i in
    let inv = c.loop-i.invariant in
    counted_all (left_rows shown ws bs end c.args.from) c.loop-i.next (rows_few shown ws bs c.args.from end c.requires.run)
    (counting_none inv (rows_none shown ws bs end i (omega arith)))
