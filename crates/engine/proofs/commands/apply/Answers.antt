-- `engine::commands::apply` meets its contract: the check, and then the step.
use mathlib.Core.Path.{sym, ◌∙◌}
use Rattle.state.specs.Does.{does_bad}
use Rattle.engine.proofs.commands.apply.Goals as goal

pub returns-then-not-well_formed : goal.returns-then-not-well_formed
returns-then-not-well_formed c =
    let a = c.args in
    let lent = c.type_inv.bytes in
    let kept = c.slice_known-2-1.given in
    does_bad a.command a.bytes.now a.words.now a.arena.now a.reply.now (λ i. (lent i).fits) (λ i. (kept i).fits) (sym c.well_formed-2.ensures ∙ c.if-not-well_formed.true)

pub step-requires : goal.step-requires
step-requires c =
    sym c.well_formed-2.ensures ∙ c.if-not-well_formed.false

pub returns : goal.returns
returns c = c.step.ensures
