-- `lists::run::list` meets its contract.
use Rattle.lists.specs.Ending.{lists_none, lists_unfit, lists_unfit_bad, lists_fit_bad, lists_fit}
use mathlib.Core.Path.{sym, ◌∙◌}
use Rattle.lists.proofs.run.list.Goals as goal

pub returns-then-not-well_formed : goal.returns-then-not-well_formed
returns-then-not-well_formed c =
    let a = c.args in
    let lent = c.type_inv.bytes in
    let kept = c.slice_known-2-1.given in
    lists_unfit_bad a.items.now a.bytes.now a.words.now a.arena.now (λ i. (lent i).fits) (λ i. (kept i).fits) (sym c.judge.ensures ∙ c.in-Unfit.is) (sym c.well_formed-in-Unfit.ensures ∙ c.if-not-well_formed.true)

pub returns-then-not-well_formed-2 : goal.returns-then-not-well_formed-2
returns-then-not-well_formed-2 c =
    let a = c.args in
    let lent = c.type_inv.bytes in
    let kept = c.slice_known-2-1.given in
    lists_fit_bad a.items.now a.bytes.now a.words.now a.arena.now (λ i. (lent i).fits) (λ i. (kept i).fits) (sym c.judge.ensures ∙ c.in-Fit.is) (sym c.well_formed-in-Fit.ensures ∙ c.if-not-well_formed-2.true)

pub run-requires : goal.run-requires
run-requires c =
    (sym c.judge.ensures ∙ c.in-Fit.is, sym c.well_formed-in-Fit.ensures ∙ c.if-not-well_formed-2.false)

pub returns-in-NoList : goal.returns-in-NoList
returns-in-NoList c =
    let a = c.args in
    let lent = c.type_inv.bytes in
    let kept = c.slice_known-2-1.given in
    lists_none a.items.now a.bytes.now a.words.now a.arena.now (λ i. (lent i).fits) (λ i. (kept i).fits) (sym c.judge.ensures ∙ c.in-NoList.is)

pub returns-else-not-well_formed : goal.returns-else-not-well_formed
returns-else-not-well_formed c =
    let a = c.args in
    let lent = c.type_inv.bytes in
    let kept = c.slice_known-2-1.given in
    lists_unfit a.items.now a.bytes.now a.words.now a.arena.now (λ i. (lent i).fits) (λ i. (kept i).fits) (sym c.judge.ensures ∙ c.in-Unfit.is) (sym c.well_formed-in-Unfit.ensures ∙ c.if-not-well_formed.false)

pub returns-else-not-well_formed-2 : goal.returns-else-not-well_formed-2
returns-else-not-well_formed-2 c =
    let a = c.args in
    let lent = c.type_inv.bytes in
    let kept = c.slice_known-2-1.given in
    lists_fit a.items.now a.bytes.now a.words.now a.arena.now (λ i. (lent i).fits) (λ i. (kept i).fits) (sym c.judge.ensures ∙ c.in-Fit.is) (sym c.well_formed-in-Fit.ensures ∙ c.if-not-well_formed-2.false) _ _ _ c.run.ensures
