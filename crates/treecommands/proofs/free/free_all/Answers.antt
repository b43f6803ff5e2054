-- `treecommands::free::free_all` meets its contract: the refusal of the group's checks, or the law of the edit.
use native.Mathlib.Omega.{arith}
use Rattle.std.proofs.lemmas.Result.{err_from_is_err_and}
use Rattle.model.specs.Layout.{node_words}
use Rattle.treecommands.specs.Edits.{cut_below_fewer}
use Rattle.treecommands.specs.Emptying.{all_refused, all_ready, all_done}
use Rattle.treecommands.proofs.free.free_all.Goals as goal

pub returns-in_err-at : goal.returns-in_err-at
returns-in_err-at c =
    let a = c.args in
    let p = err_from_is_err_and c.from_residual.result c.from_residual.ensures.1 in
    rw (p.1, p.2) (all_refused a.group a.words.now _ c.in_err-at.ensures)

pub overflow_sub-end : goal.overflow_sub-end
overflow_sub-end c =
    let here = c.in_ok-at.at in
    let live = c.in_ok-at.ensures.0.live in
    omega (arith, c.cut_below-left.ensures.size, c.wide-count.ensures, cut_below_fewer c.wide-count.result (node_words c.args.words.now) here (omega (arith, c.wide-count.ensures, live)))

pub renew-requires : goal.renew-requires
renew-requires c =
    let a = c.args in
    all_ready a.group a.words.now c.requires c.wide-count.result c.wide-count.ensures c.in_ok-at.at c.in_ok-at.ensures c.cut_below-left.new.nodes c.cut_below-left.result c.cut_below-left.ensures

pub returns : goal.returns
returns c =
    let a = c.args in
    all_done a.group a.words.now c.requires c.wide-count.result c.wide-count.ensures c.in_ok-at.at c.in_ok-at.ensures c.cut_below-left.new.nodes c.cut_below-left.result c.cut_below-left.ensures c.renew.new.words c.renew.ensures
