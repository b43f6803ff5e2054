-- `controlcommands::change_group` meets its contract: refusal 21 or 28, or the run changed.
use Rattle.std.proofs.Common.{refl, ap}
use Rattle.std.proofs.lemmas.Result.{err_from_is_err_and}
use Rattle.model.specs.Answers.{done_or}
use Rattle.controls.specs.Ready.{ready_known}
use Rattle.controlcommands.specs.Steps.{run_inside, run-changed}
use Rattle.controlcommands.proofs.change_group.Goals as goal

pub returns-in_err-controls_asked : goal.returns-in_err-controls_asked
returns-in_err-controls_asked c =
    let p = err_from_is_err_and c.from_residual.result c.from_residual.ensures.1 in
    rw (p.1, p.2) (record { answers = ap (done_or {A = Unit {0}}) c.in_err-controls_asked.ensures; words = refl })

pub change_all-requires : goal.change_all-requires
change_all-requires c =
    let a = c.args in
    let p = c.requires in
    (ready_known a.words.now a.arena.now p.0, run_inside a.words.now a.at c.wide-many.result c.subtree_end-end.result p.1 c.wide-many.ensures c.subtree_end-end.ensures)

pub returns : goal.returns
returns c =
    let a = c.args in
    run-changed a.wanted.change a.wanted.key a.wanted.count a.bytes.now a.at a.words.now a.arena.now c.wide-many.result c.subtree_end-end.result c.change_all.new.words
    c.in_ok-controls_asked.ensures c.wide-many.ensures c.subtree_end-end.ensures c.change_all.ensures
