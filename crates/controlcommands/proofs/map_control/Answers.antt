-- `controlcommands::map_control` meets its contract: each refusal by the check that fires.
use Rattle.std.proofs.Common.{not, sym, ap, ◌∙◌}
use Rattle.std.proofs.lemmas.Result.{err_from_is_err_and}
use Rattle.model.specs.declared.ControlCommand.TheVariants as controls
use Rattle.controlcommands.specs.Steps.{no_node, second, map_row, map_ran}
use Rattle.controlcommands.proofs.map_control.Goals as goal

pub returns-in_err-at : goal.returns-in_err-at
returns-in_err-at c =
    let a = c.args in
    let ws = a.words.now in
    let bs = a.arena.now in
    let p = err_from_is_err_and c.from_residual.result c.from_residual.ensures.1 in
    rw (p.1, p.2) (no_node a.node ws bs (controls.Map a.node a.key a.bus) a.bytes.now _ _ _ _ (map_row a.node a.key a.bytes.now ws bs a.bus) _ c.in_err-at.ensures)

pub returns-then-not-can_map : goal.returns-then-not-can_map
returns-then-not-can_map c =
    let a = c.args in
    let ws = a.words.now in
    let bs = a.arena.now in
    second a.node ws bs c.in_ok-at.at c.in_ok-at.ensures (controls.Map a.node a.key a.bus) a.bytes.now _ _ _ _ (map_row a.node a.key a.bytes.now ws bs a.bus) (ap not (sym c.can_map.ensures ∙ c.if-not-can_map.true))

pub returns : goal.returns
returns c =
    let a = c.args in
    map_ran a.node a.key a.bytes.now a.words.now a.arena.now c.in_ok-at.at c.in_ok-at.ensures _ _ a.bus (sym c.can_map.ensures ∙ c.if-not-can_map.false) (rw c.mapping_to.ensures at c.change_run.ensures)
