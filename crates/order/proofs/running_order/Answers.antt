use Prim.Native.Nat.{◌+◌, ◌<◌}
use mathlib.Core.Path.{◌∙◌}
use native.Mathlib.Omega.{arith}
use Rattle.nodes.specs.Table.{rows}
use Rattle.nodes.specs.TableLaws.{rows_end}
use Rattle.order.specs.Order.{so_none, so_all, so_same, so_unmarked, so_group, so_more, so_full}
use lib.ListN.{drop}
use Rattle.order.proofs.running_order.Goals as goal
use Rattle.order.proofs.running_order.Goals.{then-visited-i+then-nodes-at-ne-GROUP, then-length-lt-MOST_ORDER, else-length-lt-MOST_ORDER, else-visited-i, else-visited-i-via-then-visited-i+else-nodes-at-ne-GROUP, else-visited-i-via-else-visited-i}

pub loop-i-init : goal.loop-i-init
loop-i-init c =
    let a = c.args in
    (omega arith, so_none (rows a.count a.nodes.now) c.visit-visited.result c.visit-visited.ensures)

pub loop-i-preserved : goal.loop-i-preserved
loop-i-preserved c =
    let a = c.args in
    let us = a.nodes.now in
    let ms = c.visit-visited.result in
    let t = rows a.count us in
    let rest = drop (c.loop-i.i + 1) t in
    let left = drop (c.loop-i.i + 1) ms in
    let h : c.loop-i.i < a.count = omega arith in
    elim c.if-visited-i.branch [
      | then-visited-i+then-nodes-at-ne-GROUP w ↦ (
        omega arith,
        elim w.if-length-lt-MOST_ORDER.branch [
          | then-length-lt-MOST_ORDER v ↦ so_same t rest left c.if-visited-i.length c.if-visited-i.numbers (so_more a.count us ms c.loop-i.i c.loop-i.length c.loop-i.numbers h c.loop-i.invariant.1 w.if-visited-i.true w.if-nodes-at-ne-GROUP.true v.if-length-lt-MOST_ORDER.true) (w.numbers-is ∙ v.numbers-is) w.length-is
          | else-length-lt-MOST_ORDER v ↦ so_same t rest left c.if-visited-i.length c.if-visited-i.numbers (so_full a.count us ms c.loop-i.i c.loop-i.length c.loop-i.numbers h c.loop-i.invariant.1 w.if-visited-i.true w.if-nodes-at-ne-GROUP.true v.if-length-lt-MOST_ORDER.false) (w.numbers-is ∙ v.numbers-is) w.length-is
        ],
      )
      | else-visited-i w ↦ (
        omega arith,
        elim w.else-visited-i.branch [
          | else-visited-i-via-then-visited-i+else-nodes-at-ne-GROUP v ↦ so_same t rest left c.if-visited-i.length c.if-visited-i.numbers (so_group a.count us ms c.loop-i.i c.loop-i.length c.loop-i.numbers h c.loop-i.invariant.1 v.if-visited-i.true (omega arith)) w.numbers-is w.length-is
          | else-visited-i-via-else-visited-i v ↦ so_same t rest left c.if-visited-i.length c.if-visited-i.numbers (so_unmarked a.count us ms c.loop-i.i c.loop-i.length c.loop-i.numbers h c.loop-i.invariant.1 v.if-visited-i.false) w.numbers-is w.length-is
        ],
      )
    ]

pub returns : goal.returns
returns c =
    let a = c.args in
    let us = a.nodes.now in
    let t = rows a.count us in
    let all = so_all t (drop c.loop-i.i t) (drop c.loop-i.i c.visit-visited.result) c.loop-i.length c.loop-i.numbers (rows_end a.count us c.loop-i.i (omega arith)) c.loop-i.invariant.1 in
    record { numbers = all.0; many = all.1 }
