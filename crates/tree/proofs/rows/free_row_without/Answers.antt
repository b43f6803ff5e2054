-- `tree::rows::free_row_without` meets its contract: where each of the first rows has a mark, the search goes on behind them.
use mathlib.Core.List.{◌++◌}
use native.Mathlib.Omega.{arith}
use lib.ListN.{take, drop}
use Rattle.nodes.specs.Table.{rows}
use Rattle.tree.specs.FreeRow.{free_first}
use Rattle.tree.proofs.rows.free_row_without.Goals as goal

pub returns-then-few-most : goal.returns-then-few-most
returns-then-few-most c =
    let a = c.args in
    let t = take a.from (rows a.count a.nodes.now) ++ drop a.to (rows a.count a.nodes.now) in
    free_first c.taken_rows-marks.result t c.taken_rows-marks.ensures 0 c.first_free-few.result (λ k h. absurd (omega arith))
    (omega arith) c.first_free-few.ensures.1.1.0 (λ h. c.first_free-few.ensures.1.1.1 c.if-few-most.true)

pub returns-then-count-lt-ROWS : goal.returns-then-count-lt-ROWS
returns-then-count-lt-ROWS c =
    let a = c.args in
    let t = take a.from (rows a.count a.nodes.now) ++ drop a.to (rows a.count a.nodes.now) in
    free_first c.taken_rows-marks.result t c.taken_rows-marks.ensures c.first_free-few.result c.first_free.result (λ k h. c.first_free-few.ensures.1.1.0 k h (omega arith))
    c.first_free.ensures.1.0 c.first_free.ensures.1.1.0 c.first_free.ensures.1.1.1

pub returns : goal.returns
returns c =
    let a = c.args in
    let t = take a.from (rows a.count a.nodes.now) ++ drop a.to (rows a.count a.nodes.now) in
    free_first c.taken_rows-marks.result t c.taken_rows-marks.ensures 0 c.first_free-2.result (λ k h. absurd (omega arith))
    c.first_free-2.ensures.1.0 c.first_free-2.ensures.1.1.0 c.first_free-2.ensures.1.1.1
