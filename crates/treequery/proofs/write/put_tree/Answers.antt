use Prim.Native.Nat.{◌+◌, ◌<◌}
use native.Mathlib.Omega.{arith}
use Rattle.treequery.specs.RowArguments.{row_arguments, rows_turn, rows_none}
use Rattle.treequery.specs.Writing.{left_all, left_some, left_less, left_none}
use Rattle.treequery.specs.Rows.{left_rows, row_of}
use Rattle.treequery.proofs.write.put_tree.Goals as goal

pub loop-i-init : goal.loop-i-init
loop-i-init c =
    (left_all c.requires.3)

pub put_row-next-requires : goal.put_row-next-requires
put_row-next-requires c =
    let ws = c.args.words.now in
    let bs = c.args.arena.now in
    let shown = c.args.shown in
    let end = c.args.end in
    let i = c.loop-i.i in
    let inv = c.loop-i.invariant in
    let less : i < end = omega arith in (
      row_of shown ws bs c.args.shapes.now c.args.from end i c.requires.0 (omega arith) less,
      omega (arith, c.requires.2 i (omega arith) less),
      left_some (row_arguments shown ws bs end i) (left_rows shown ws bs end (i + 1)) inv (rows_turn shown ws bs end i less),
    )

pub loop-i-preserved : goal.loop-i-preserved
loop-i-preserved c =
    let ws = c.args.words.now in
    let bs = c.args.arena.now in
    let shown = c.args.shown in
    let end = c.args.end in
    let i = c.loop-i.i in
    let inv = c.loop-i.invariant in
    let less : i < end = omega arith in
    (left_less (row_arguments shown ws bs end i) (left_rows shown ws bs end (i + 1)) inv (rows_turn shown ws bs end i less) c.put_row-next.ensures)

pub returns : goal.returns
returns c =
    let ws = c.args.words.now in
    let bs = c.args.arena.now in
    let shown = c.args.shown in
    let end = c.args.end in
    let i = c.loop-i.i in
    let inv = c.loop-i.invariant in
    left_none inv (rows_none shown ws bs end i (omega arith))
