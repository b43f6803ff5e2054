-- `settings::recalling::recall` meets its contract: the refusal of the checks that it begins with, or the settings of the version.
use Rattle.std.proofs.lemmas.Result.{err_from_is_err_and}
use Rattle.settings.specs.Recalled.{recall_unfit, recall-set}
use Rattle.settings.proofs.recalling.recall.Goals as goal

pub returns-in_err-synth_place : goal.returns-in_err-synth_place
returns-in_err-synth_place c =
    let a = c.args in
    let p = err_from_is_err_and c.from_residual.result c.from_residual.ensures.1 in
    rw (p.1, p.2) (recall_unfit a.name.now a.number a.node a.store.now a.words.now a.arena.now (λ i. (c.type_inv.arena i).fits) _ c.in_err-synth_place.ensures)

pub recall_version-requires : goal.recall_version-requires
recall_version-requires c =
    (c.in_ok-synth_place.ensures.stands, c.in_ok-synth_place.ensures.whole)

pub returns : goal.returns
returns c =
    let a = c.args in
    recall-set a.name.now a.number a.node a.store.now a.words.now a.arena.now (λ i. (c.type_inv.arena i).fits) _ c.in_ok-synth_place.ensures _ _ c.recall_version.ensures
