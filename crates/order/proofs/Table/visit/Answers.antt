use Prim.Native.Nat.{◌+◌}
use mathlib.Core.Path.{◌∙◌}
use native.Mathlib.Omega.{arith}
use Rattle.nodes.specs.TableLaws.{rows_end, rows-length}
use Rattle.order.specs.Tables.{rows_of}
use Rattle.order.specs.Visits.{walked_all, walked_under, walked_off, walked_on, walked_same}
use lib.ListN.{drop}
use Rattle.order.proofs.Table.visit.Goals as goal
use Rattle.order.proofs.Table.visit.Goals.{then-depth-limit+then-self-at-eq1, then-depth-limit+else-self-at-eq1, else-depth-limit}

pub loop-i-preserved : goal.loop-i-preserved
loop-i-preserved c =
    let a = c.args.self in
    let us = a.nodes.now in
    let t = rows_of a in
    let rest = drop (c.loop-i.i + 1) t in
    let few = a.fits.few in
    elim c.if-depth-limit.branch [
      | then-depth-limit+then-self-at-eq1 w ↦ (omega arith, walked_same t rest c.if-depth-limit.limit c.if-depth-limit.visited (walked_on a.count us c.loop-i.i c.loop-i.limit c.loop-i.visited (omega arith) few c.loop-i.invariant.1 w.if-depth-limit.true w.if-self-at-eq1.true) w.visited-is w.limit-is)
      | then-depth-limit+else-self-at-eq1 w ↦ (omega arith, walked_same t rest c.if-depth-limit.limit c.if-depth-limit.visited (walked_off a.count us c.loop-i.i c.loop-i.limit c.loop-i.visited (omega arith) few c.loop-i.invariant.1 w.if-depth-limit.true w.if-self-at-eq1.false) w.visited-is w.limit-is)
      | else-depth-limit w ↦ (omega arith, walked_same t rest c.if-depth-limit.limit c.if-depth-limit.visited (walked_under a.count us c.loop-i.i c.loop-i.limit c.loop-i.visited (omega arith) few c.loop-i.invariant.1 w.if-depth-limit.false) w.visited-is w.limit-is)
    ]

pub returns : goal.returns
returns c =
    let a = c.args.self in
    let us = a.nodes.now in
    let t = rows_of a in
    walked_all t c.loop-i.limit c.loop-i.i c.loop-i.visited (drop c.loop-i.i t) (rows_end a.count us c.loop-i.i (omega arith)) (rows-length a.count us ∙ omega arith) c.loop-i.invariant.1
