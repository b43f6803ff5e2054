-- `treecommands::moves::move_node` meets its contract: the refusal of the checks, or the law of the move.
use Rattle.std.proofs.lemmas.Result.{err_from_is_err_and}
use Rattle.model.specs.Layout.{count_in, node_words}
use Rattle.tree.specs.Ends.{move_place}
use Rattle.treecommands.specs.Moving.{move_refused, move_ready, move_done}
use Rattle.treecommands.proofs.moves.move_node.Goals as goal

pub returns-in_err-a : goal.returns-in_err-a
returns-in_err-a c =
    let a = c.args in
    let p = err_from_is_err_and c.from_residual.result c.from_residual.ensures.1 in
    rw (p.1, p.2) (move_refused a.position a.node a.by a.words.now _ c.in_err-a.ensures)

pub move_to-requires : goal.move_to-requires
move_to-requires c =
    let a = c.args in (
      rw (c.place_by-to.ensures, c.wide-count.ensures) (move_place (node_words a.words.now) (count_in a.words.now) _ _ c.in_ok-a.ensures.moving a.position),
      c.subtree_end-end.ensures,
    )

pub renew_kept-requires : goal.renew_kept-requires
renew_kept-requires c =
    let a = c.args in
    move_ready a.position a.node a.by a.words.now c.requires _ _ c.in_ok-a.ensures c.wide-count.result c.wide-count.ensures c.place_by-to.result c.place_by-to.ensures c.move_to.new.nodes c.move_to.ensures c.subtree_end-end.result c.subtree_end-end.ensures c.move_edit-edit.result c.move_edit-edit.ensures

pub returns : goal.returns
returns c =
    let a = c.args in
    move_done a.position a.node a.by a.words.now c.requires _ _ c.in_ok-a.ensures c.wide-count.result c.wide-count.ensures c.place_by-to.result c.place_by-to.ensures c.move_to.new.nodes c.move_to.ensures c.renew_kept.new.words c.renew_kept.ensures
