-- `controlcommands::fill_controls` meets its contract: each refusal by the check that fires.
use Rattle.std.proofs.Common.{not, sym, ap, ◌∙◌}
use Rattle.std.proofs.lemmas.Result.{err_from_is_err_and}
use Rattle.model.specs.declared.ControlCommand.TheVariants as controls
use Rattle.values.specs.ValueLaws.{bounds_fact}
use Rattle.controlcommands.specs.Buses.{bad_value}
use Rattle.controlcommands.specs.Steps.{no_node, second, fill_row, fill_ran}
use Rattle.controlcommands.proofs.fill_controls.Goals as goal

pub returns-in_err-at : goal.returns-in_err-at
returns-in_err-at c =
    let a = c.args in
    let ws = a.words.now in
    let bs = a.arena.now in
    let p = err_from_is_err_and c.from_residual.result c.from_residual.ensures.1 in
    rw (p.1, p.2)
    (no_node a.node ws bs (controls.Fill a.node a.key a.count a.value) a.bytes.now _ _ _ _ (fill_row a.node a.key a.bytes.now ws bs a.count a.value) _ c.in_err-at.ensures)

pub returns-in_err-pattern : goal.returns-in_err-pattern
returns-in_err-pattern c =
    let a = c.args in
    let ws = a.words.now in
    let bs = a.arena.now in
    let r = c.from_residual-in_err-pattern in
    let p = err_from_is_err_and r.result r.ensures.1 in
    rw (p.1, p.2, bad_value _ _ _ c.in_err-pattern.ensures.value)
    (second a.node ws bs c.in_ok-at.at c.in_ok-at.ensures (controls.Fill a.node a.key a.count a.value) a.bytes.now _ _ _ _ (fill_row a.node a.key a.bytes.now ws bs a.count a.value)
    (ap not (bounds_fact a.value (sym c.value_pattern.ensures ∙ c.in_err-pattern.ensures.ok_part))))

pub returns : goal.returns
returns c =
    let a = c.args in
    fill_ran a.node a.key a.bytes.now a.words.now a.arena.now c.in_ok-at.at c.in_ok-at.ensures _ _ a.count a.value c.in_ok-pattern.pattern (sym c.value_pattern.ensures ∙ c.in_ok-pattern.ensures.ok_part) c.change_run.ensures
