use Rattle.std.proofs.Common.{◌≡◌, ℕ, Bool, false, length, drop, get_or, arith}
use Rattle.words.specs.Choice.{either}
use Rattle.nodes.specs.Table.{rows}
use Rattle.nodes.specs.Formed.{row_taken}
use Rattle.tree.specs.FreeRow.{marked_end, marked_skip, marked_set}
use Rattle.tree.proofs.rows.mark_rows.Goals as goal
use Rattle.tree.proofs.rows.mark_rows.Goals.{in-Some+then-row-lt-ROWS, in-Some+else-row-lt-ROWS, in_default}

pub loop-i-preserved : goal.loop-i-preserved
loop-i-preserved c =
    let a = c.args in
    let us = a.nodes.now in
    let all : ℕ → Bool = λ (k : ℕ). either (get_or a.marks.now k false) (row_taken k (drop a.from (rows a.to us))) in
    let size : length c.loop-i.marks ≡ 256 = omega arith in
    elim c.match-row_at.branch [
      | in-Some+then-row-lt-ROWS w ↦ rw w.marks-is (marked_set c.loop-i.marks all a.to us c.loop-i.i w.in-Some.row (omega arith) (w.in-Some.ensures 256) c.loop-i.invariant w.if-row-lt-ROWS.true size)
      | in-Some+else-row-lt-ROWS w ↦ rw w.marks-is (marked_skip c.loop-i.marks all a.to us c.loop-i.i w.in-Some.row (omega arith) (w.in-Some.ensures 256) c.loop-i.invariant w.if-row-lt-ROWS.false)
      | in_default w ↦ rw w.marks-is (marked_skip c.loop-i.marks all a.to us c.loop-i.i 256 (omega arith) (w.in_default.ensures 256) c.loop-i.invariant (omega arith))
    ]

pub returns : goal.returns
returns c =
    let a = c.args in
    let us = a.nodes.now in
    let all : ℕ → Bool = λ (k : ℕ). either (get_or a.marks.now k false) (row_taken k (drop a.from (rows a.to us))) in
    (omega arith, marked_end c.loop-i.marks all a.to us c.loop-i.i (omega arith) c.loop-i.invariant)
