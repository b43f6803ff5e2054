-- `why::reasons::reason_at` meets its contract: a law for each return.
use Rattle.std.proofs.Common.{arith}
use Rattle.why.specs.Returns.{return_group, return_off, return_above, return_running}
use Rattle.why.proofs.reasons.reason_at.Goals as goal

pub returns-then-slot-eq-GROUP : goal.returns-then-slot-eq-GROUP
returns-then-slot-eq-GROUP c =
    let r = c.requires.1 in
    return_group c.args.words.now r.0 c.args.at r.1.0 c.if-slot-eq-GROUP.true

pub returns-then-run-ne1 : goal.returns-then-run-ne1
returns-then-run-ne1 c =
    let r = c.requires.1 in
    return_off c.args.words.now r.0 c.args.at r.1.0 c.if-slot-eq-GROUP.false c.if-run-ne1.true

pub returns-then-seen-depth : goal.returns-then-seen-depth
returns-then-seen-depth c =
    let r = c.requires.1 in
    return_above c.args.words.now r.0 c.args.at r.1.0 c.if-slot-eq-GROUP.false (omega arith) c.args.seen r.1.1 c.if-seen-depth.true

pub returns : goal.returns
returns c =
    let r = c.requires.1 in
    return_running c.args.words.now r.0 c.args.at r.1.0 c.if-slot-eq-GROUP.false (omega arith) c.args.seen r.1.1 (omega arith)
