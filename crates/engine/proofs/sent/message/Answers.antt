-- `engine::sent::message` meets its contract: what was read, the check, and then the step.
use Rattle.std.proofs.Common.{sym, ◌∙◌}
use Rattle.std.proofs.lemmas.Result.{err_from_is_err_and}
use Rattle.engine.specs.Messages.{sends_bad, sends_refused, sends_command}
use Rattle.engine.proofs.sent.message.Goals as goal

pub returns-then-not-well_formed : goal.returns-then-not-well_formed
returns-then-not-well_formed c =
    let a = c.args in
    let lent = c.type_inv.message in
    let kept = c.slice_known-2-1.given in
    sends_bad a.message.now a.words.now a.arena.now a.reply.now (λ i. (lent i).fits) (λ i. (kept i).fits) c.read-received.result c.read-received.ensures (sym c.well_formed-2.ensures ∙ c.if-not-well_formed.true)

pub step-requires : goal.step-requires
step-requires c = sym c.well_formed-2.ensures ∙ c.if-not-well_formed.false

pub returns-in_err-sent : goal.returns-in_err-sent
returns-in_err-sent c =
    let a = c.args in
    let lent = c.type_inv.message in
    let kept = c.slice_known-2-1.given in
    let p = err_from_is_err_and c.from_residual.result c.from_residual.ensures.1 in
    rw (p.1, p.2)
    (sends_refused a.message.now a.words.now a.arena.now a.reply.now (λ i. (lent i).fits) (λ i. (kept i).fits) c.read-received.result c.read-received.ensures _ c.in_err-sent.was
    (sym c.well_formed-2.ensures ∙ c.if-not-well_formed.false))

pub returns : goal.returns
returns c =
    let a = c.args in
    let lent = c.type_inv.message in
    let kept = c.slice_known-2-1.given in
    sends_command a.message.now a.words.now a.arena.now a.reply.now (λ i. (lent i).fits) (λ i. (kept i).fits) c.read-received.result c.read-received.ensures c.in_ok-sent.sent c.in_ok-sent.was
    c.step.result _ _ _ c.step.ensures
