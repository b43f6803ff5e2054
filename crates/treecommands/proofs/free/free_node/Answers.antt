-- `treecommands::free::free_node` meets its contract: each refusal by the check that fires, the rest by the law of the edit. Where one node alone
-- is freed, the latest synth is told by its number.
use Prim.Native.Nat.{◌+◌, ◌*◌}
use native.Mathlib.Omega.{arith}
use lib.ListN.{get_or}
use Rattle.std.proofs.lemmas.Result.{err_from_is_err_and}
use Rattle.nodes.specs.Table.{width}
use Rattle.model.specs.Layout.{nodes_place, node_words}
use Rattle.treecommands.specs.Ready.{node_number}
use Rattle.treecommands.specs.Edits.{cut_fewer}
use Rattle.treecommands.specs.Freeing.{free-unknown, free-root, free_ready, free_one, free_done}
use Rattle.treecommands.proofs.free.free_node.Goals as goal

pub returns-in_err-at : goal.returns-in_err-at
returns-in_err-at c =
    let a = c.args in
    let p = err_from_is_err_and c.from_residual.result c.from_residual.ensures.1 in
    rw (p.1, p.2) (free-unknown a.node a.words.now _ c.in_err-at.ensures)

pub returns-then-at-eq0 : goal.returns-then-at-eq0
returns-then-at-eq0 c =
    let a = c.args in
    free-root a.node a.words.now c.requires _ c.in_ok-at.ensures c.if-at-eq0.true

pub overflow_sub-end : goal.overflow_sub-end
overflow_sub-end c =
    let here = c.in_ok-at.at in
    let live = c.in_ok-at.ensures.live in
    omega (arith, c.cut-left.ensures.size, c.wide-count.ensures, cut_fewer c.wide-count.result (node_words c.args.words.now) here (omega (arith, c.wide-count.ensures, live)))

pub renew_without-requires : goal.renew_without-requires
renew_without-requires c =
    let a = c.args in
    let here = c.in_ok-at.at in
    let live = c.in_ok-at.ensures.live in
    free_one a.node a.words.now c.requires c.wide-count.result c.wide-count.ensures c.in_ok-at.at c.in_ok-at.ensures c.cut-left.new.nodes c.cut-left.result c.cut-left.ensures (get_or a.words.now (nodes_place + width * here) 0) (node_number a.words.now here (omega (arith, c.requires.few, live))) c.if-end-at.true

pub renew-requires : goal.renew-requires
renew-requires c =
    let a = c.args in
    free_ready a.node a.words.now c.requires c.wide-count.result c.wide-count.ensures c.in_ok-at.at c.in_ok-at.ensures c.cut-left.new.nodes c.cut-left.result c.cut-left.ensures

pub returns-then-end-at : goal.returns-then-end-at
returns-then-end-at c =
    let a = c.args in
    free_done a.node a.words.now c.requires c.wide-count.result c.wide-count.ensures c.in_ok-at.at c.in_ok-at.ensures c.cut-left.new.nodes c.cut-left.result c.cut-left.ensures c.renew_without.new.words c.if-at-eq0.false c.renew_without.ensures

pub returns-else-end-at : goal.returns-else-end-at
returns-else-end-at c =
    let a = c.args in
    free_done a.node a.words.now c.requires c.wide-count.result c.wide-count.ensures c.in_ok-at.at c.in_ok-at.ensures c.cut-left.new.nodes c.cut-left.result c.cut-left.ensures c.renew.new.words c.if-at-eq0.false c.renew.ensures
