use Rattle.std.proofs.Common.{◌*◌, length-drop, arith}
use Rattle.lists.specs.Walk.{tail_is}
use Rattle.lists.specs.Running.{run_begins, run_kind, run_goes, run_stops, run_ends, not_err, an_err}
use Rattle.lists.proofs.run.run.Goals as goal

pub loop-i-init : goal.loop-i-init
loop-i-init c =
    run_begins c.args.items.now c.args.bytes.now c.args.words.now c.args.arena.now c.requires.0 c.requires.1

pub item_step-answer-requires : goal.item_step-answer-requires
item_step-answer-requires c =
    let a = c.args in
    let less = c.loop-i-test.true in
    rw (tail_is (12 * c.loop-i.i) a.items.now)
    (simp length-drop (omega arith), (run_kind a.items.now a.bytes.now a.words.now a.arena.now c.loop-i.i c.loop-i.words c.loop-i.arena c.loop-i.invariant less, c.loop-i.invariant.whole))

pub returns-then-is_err : goal.returns-then-is_err
returns-then-is_err c =
    let a = c.args in
    let does = rw (tail_is (12 * c.loop-i.i) a.items.now) at c.item_step-answer.ensures in
    run_stops a.items.now a.bytes.now a.words.now a.arena.now c.loop-i.i c.loop-i.words c.loop-i.arena c.loop-i.invariant c.loop-i-test.true c.item_step-answer.result _ _ does (an_err c.item_step-answer.result c.if-is_err.ensures.value)

pub loop-i-preserved : goal.loop-i-preserved
loop-i-preserved c =
    let a = c.args in
    let does = rw (tail_is (12 * c.loop-i.i) a.items.now) at c.item_step-answer.ensures in
    run_goes a.items.now a.bytes.now a.words.now a.arena.now c.loop-i.i c.loop-i.words c.loop-i.arena c.loop-i.invariant c.loop-i-test.true c.item_step-answer.result _ _ does (not_err c.item_step-answer.result c.if-is_err.ensures.value)

pub returns : goal.returns
returns c =
    let a = c.args in
    run_ends a.items.now a.bytes.now a.words.now a.arena.now c.loop-i.i c.loop-i.words c.loop-i.arena c.loop-i.invariant c.loop-i-test.false
