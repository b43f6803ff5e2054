-- `treecommands::free::group_at` meets its contract: each refusal by the check that fires.
use Rattle.std.proofs.lemmas.Result.{err_from_is_err_and}
use mathlib.Core.Path.{sym, ◌∙◌}
use Rattle.treecommands.specs.Emptying.{group_unknown, group_wrong, group_right}
use Rattle.treecommands.proofs.free.group_at.Goals as goal

pub returns-in_err-at : goal.returns-in_err-at
returns-in_err-at c =
    let a = c.args in
    let p = err_from_is_err_and c.from_residual.result c.from_residual.ensures.1 in
    rw (p.1, p.2) (group_unknown a.group a.words.now _ c.in_err-at.ensures)

pub returns-then-is_synth : goal.returns-then-is_synth
returns-then-is_synth c =
    let a = c.args in
    group_wrong a.group a.words.now c.requires _ c.in_ok-at.ensures (sym c.is_synth.ensures ∙ c.if-is_synth.true)

pub returns : goal.returns
returns c =
    let a = c.args in
    group_right a.group a.words.now c.requires _ c.in_ok-at.ensures (sym c.is_synth.ensures ∙ c.if-is_synth.false)
