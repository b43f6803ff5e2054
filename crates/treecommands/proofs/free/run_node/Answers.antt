-- `treecommands::free::run_node` meets its contract: each refusal by the check that fires, the rest by the law of the edit.
use native.Mathlib.Omega.{arith}
use Rattle.std.proofs.lemmas.Result.{err_from_is_err_and}
use Rattle.treecommands.specs.Freeing.{run_flag, run_unknown, run_sorted, run_done}
use Rattle.treecommands.proofs.free.run_node.Goals as goal

pub returns-then-flag-gt1 : goal.returns-then-flag-gt1
returns-then-flag-gt1 c =
    let a = c.args in
    run_flag a.node a.flag a.words.now c.if-flag-gt1.true

pub returns-in_err-at : goal.returns-in_err-at
returns-in_err-at c =
    let a = c.args in
    let p = err_from_is_err_and c.from_residual.result c.from_residual.ensures.1 in
    rw (p.1, p.2) (run_unknown a.node a.flag a.words.now (omega arith) _ c.in_err-at.ensures)

pub renew_in_place-requires : goal.renew_in_place-requires
renew_in_place-requires c =
    let a = c.args in
    run_sorted a.node a.flag a.words.now (omega arith) c.requires c.wide-count.result c.wide-count.ensures _ c.in_ok-at.ensures c.set_run.new.nodes c.set_run.ensures

pub returns : goal.returns
returns c =
    let a = c.args in
    run_done a.node a.flag a.words.now (omega arith) c.requires c.wide-count.result c.wide-count.ensures _ c.in_ok-at.ensures c.set_run.new.nodes c.set_run.ensures c.renew_in_place.new.words c.renew_in_place.ensures
