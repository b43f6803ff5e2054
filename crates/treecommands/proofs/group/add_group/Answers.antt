-- `treecommands::group::add_group` meets its contract: the checks' refusal, or the law of the add action.
use Rattle.std.proofs.lemmas.Result.{err_from_is_err_and}
use Rattle.model.specs.Layout.{count_in, node_words}
use Rattle.tree.specs.Gaps.{gap_fits}
use Rattle.treecommands.specs.Grouping.{group_refused, group_ready, group_done}
use Rattle.treecommands.proofs.group.add_group.Goals as goal

pub returns-in_err-at : goal.returns-in_err-at
returns-in_err-at c =
    let a = c.args in
    let p = err_from_is_err_and c.from_residual.result c.from_residual.ensures.1 in
    rw (p.1, p.2) (group_refused a.number a.action a.target a.words.now _ c.in_err-at.ensures)

pub fill_gap-after-requires : goal.fill_gap-after-requires
fill_gap-after-requires c =
    let a = c.args in
    rw (c.gap_by-gap.ensures, c.wide-count.ensures) (gap_fits (node_words a.words.now) (count_in a.words.now) a.action c.in_ok-at.at c.in_ok-at.ensures.room)

pub renew_added-requires : goal.renew_added-requires
renew_added-requires c =
    let a = c.args in
    group_ready a.number a.action a.target a.words.now c.requires c.wide-count.result c.wide-count.ensures c.in_ok-at.at c.in_ok-at.ensures c.gap_by-gap.result c.gap_by-gap.ensures c.fill_gap-after.new.nodes c.fill_gap-after.result c.fill_gap-after.ensures

pub returns : goal.returns
returns c =
    let a = c.args in
    group_done a.number a.action a.target a.words.now c.requires c.wide-count.result c.wide-count.ensures c.in_ok-at.at c.in_ok-at.ensures c.gap_by-gap.result c.gap_by-gap.ensures c.fill_gap-after.new.nodes c.fill_gap-after.result c.fill_gap-after.ensures c.renew_added.new.words c.renew_added.ensures
