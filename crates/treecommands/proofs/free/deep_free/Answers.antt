-- `treecommands::free::deep_free` meets its contract: the refusal of the group's checks, or the law of the edit.
use Rattle.std.proofs.lemmas.Result.{err_from_is_err_and}
use Rattle.treecommands.specs.Emptying.{deep_refused, deep_ready, deep_done}
use Rattle.treecommands.proofs.free.deep_free.Goals as goal

pub returns-in_err-at : goal.returns-in_err-at
returns-in_err-at c =
    let a = c.args in
    let p = err_from_is_err_and c.from_residual.result c.from_residual.ensures.1 in
    rw (p.1, p.2) (deep_refused a.group a.words.now _ c.in_err-at.ensures)

pub renew_sifted-requires : goal.renew_sifted-requires
renew_sifted-requires c =
    let a = c.args in
    deep_ready a.group a.words.now c.requires c.wide-count.result c.wide-count.ensures c.in_ok-at.at c.in_ok-at.ensures c.deep_free-left.new.nodes c.deep_free-left.result c.deep_free-left.ensures c.subtree_end-end.result c.subtree_end-end.ensures c.kept_places-places.result c.kept_places-places.ensures

pub returns : goal.returns
returns c =
    let a = c.args in
    deep_done a.group a.words.now c.requires c.wide-count.result c.wide-count.ensures c.in_ok-at.at c.in_ok-at.ensures c.deep_free-left.new.nodes c.deep_free-left.result c.deep_free-left.ensures c.renew_sifted.new.words c.renew_sifted.ensures
