use Rattle.std.proofs.Common.{arith}
use Rattle.messageread.specs.WalkLaws.{walk_begins, walk_stops, walk_goes, walk_ends}
use Rattle.messageread.proofs.walk.walk.Goals as goal

pub loop-k-init : goal.loop-k-init
loop-k-init c =
    let a = c.args in
    walk_begins a.message.now a.tags.now a.from.at a.op

pub returns-in_err-argument : goal.returns-in_err-argument
returns-in_err-argument c =
    let a = c.args in
    let l = c.loop-k in
    rw c.from_residual.ensures (walk_stops a.message.now a.tags.now a.from.at a.op l.kept l.at.at l.k l.invariant (omega arith) c.in_err-argument.ensures)

pub loop-k-preserved : goal.loop-k-preserved
loop-k-preserved c =
    let a = c.args in
    let l = c.loop-k in
    let read = c.in_ok-argument in
    walk_goes a.message.now a.tags.now a.from.at a.op l.kept l.at.at l.k l.invariant (omega arith) read.argument read.next c.keep-kept.result c.in_ok-argument.ensures (rw c.slot_at.ensures at c.keep-kept.ensures)

pub returns : goal.returns
returns c =
    let a = c.args in
    let l = c.loop-k in
    walk_ends a.message.now a.tags.now a.from.at a.op l.kept l.at l.k l.invariant (omega arith)
