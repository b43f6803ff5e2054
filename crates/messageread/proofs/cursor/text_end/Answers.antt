use native.Mathlib.Omega.{arith}
use Rattle.messageread.specs.EndLaws.{none_passed, one_passed, ends_zero, ends_high, ends_cut}
use Rattle.messageread.proofs.cursor.text_end.Goals as goal

pub loop-i-init : goal.loop-i-init
loop-i-init c = none_passed c.args.message.now c.args.at

pub returns-then-byte-eq0 : goal.returns-then-byte-eq0
returns-then-byte-eq0 c =
    let a = c.args in
    ends_zero a.message.now a.at c.loop-i.i c.loop-i.invariant (omega arith) c.if-byte-eq0.true

pub returns-then-byte-gt127 : goal.returns-then-byte-gt127
returns-then-byte-gt127 c =
    let a = c.args in
    ends_high a.message.now a.at c.loop-i.i c.loop-i.invariant (omega arith) c.if-byte-eq0.false c.if-byte-gt127.true

pub loop-i-preserved : goal.loop-i-preserved
loop-i-preserved c =
    let a = c.args in
    one_passed a.message.now a.at c.loop-i.i c.loop-i.invariant (omega arith) c.if-byte-eq0.false c.if-byte-gt127.false

pub returns : goal.returns
returns c =
    let a = c.args in
    ends_cut a.message.now a.at c.loop-i.i c.loop-i.invariant (omega arith)
