-- `newsynth::synth::new_synth` meets its contract: by the action that the number asks for, or refused.
use mathlib.Core.Path.{sym}
use Rattle.std.proofs.lemmas.Result.{err_from_is_err_and}
use Rattle.tree.specs.Action.{asked_number, asked_refused}
use Rattle.newsynth.specs.Synth.{synth_unasked}
use Rattle.newsynth.proofs.synth.new_synth.Goals as goal

pub returns-in_err-by : goal.returns-in_err-by
returns-in_err-by c =
    let a = c.args in
    let p = err_from_is_err_and c.from_residual.result c.from_residual.ensures.1 in
    let refused = asked_refused a.action _ (sym c.in_err-by.ensures) in
    rw (p.1, p.2, refused.1) (synth_unasked a.number a.action a.target a.bytes.now a.words.now a.arena.now refused.0)

pub returns : goal.returns
returns c =
    let a = c.args in
    rw (asked_number a.action _ (sym c.in_ok-by.ensures)) c.add_synth.ensures
