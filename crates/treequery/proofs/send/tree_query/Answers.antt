-- `treequery::send::tree_query` meets its contract: each refusal by the check that fires, and the reply by the run of the group.
use Rattle.std.proofs.Common.{ℕ, ◌≡◌, sym, ap, ◌∙◌, arith}
use Rattle.std.proofs.lemmas.Result.{err_from_is_err_and}
use Rattle.words.specs.Parts.{region}
use Rattle.nodes.specs.Sizes.{end_at}
use Rattle.model.specs.declared.Query.TheVariants as query
use Rattle.model.specs.Layout.{count_in, nodes_place, nodes_words}
use Rattle.queries.specs.Answers.{reply-refused, reply-sent}
use Rattle.queries.specs.Held.{At}
use Rattle.treequery.specs.Rows.{tree_message}
use Rattle.treequery.specs.Subtree.{end_most, tree_unknown, tree_synth, tree_passes, tree-reply}
use Rattle.treequery.proofs.send.tree_query.Goals as goal

pub returns-in_err-at : goal.returns-in_err-at
returns-in_err-at c =
    let a = c.args in
    let ws = a.words.now in
    let bs = a.arena.now in
    let p = err_from_is_err_and c.from_residual.result c.from_residual.ensures.1 in
    rw (p.1, p.2) (reply-refused (query.Tree a.group a.flag) a.bytes.now ws bs a.out.now _ (tree_unknown a.group a.bytes.now ws bs a.flag _ c.in_err-at.ensures))

pub returns-then-not-node_is_group : goal.returns-then-not-node_is_group
returns-then-not-node_is_group c =
    let a = c.args in
    let ws = a.words.now in
    let bs = a.arena.now in
    let found = c.in_ok-at.ensures in
    let there : At ws bs c.in_ok-at.at = record { state = c.requires; live = found.live } in
    reply-refused (query.Tree a.group a.flag) a.bytes.now ws bs a.out.now _ (tree_synth a.group a.bytes.now ws bs c.in_ok-at.at found there a.flag (sym c.node_is_group.ensures ∙ c.if-not-node_is_group.true))

pub send_tree-requires : goal.send_tree-requires
send_tree-requires c =
    let ws = c.args.words.now in
    let here : ℕ = c.in_ok-at.at in
    let found = c.in_ok-at.ensures in
    let us = region nodes_place nodes_words ws in
    let ends : c.subtree_end-end.result ≡ end_at (count_in ws) us here = c.subtree_end-end.ensures ∙ ap (λ (k : ℕ). end_at k us here) c.wide-count.ensures in
    record { state = c.requires; order = omega (arith, ends); ends = omega (arith, ends, end_most (count_in ws) here us found.live) }

pub returns : goal.returns
returns c =
    let a = c.args in
    let ws = a.words.now in
    let bs = a.arena.now in
    let here : ℕ = c.in_ok-at.at in
    let found = c.in_ok-at.ensures in
    let there : At ws bs here = record { state = c.requires; live = found.live } in
    let us = region nodes_place nodes_words ws in
    let ends : c.subtree_end-end.result ≡ end_at (count_in ws) us here = c.subtree_end-end.ensures ∙ ap (λ (k : ℕ). end_at k us here) c.wide-count.ensures in
    reply-sent (query.Tree a.group a.flag) a.bytes.now ws bs a.out.now (tree_message c.is_shown.result ws bs c.subtree_end-end.result here) _ _
    (tree_passes a.group a.bytes.now ws bs here found there a.flag (sym c.node_is_group.ensures ∙ c.if-not-node_is_group.false))
    (tree-reply a.group a.bytes.now ws bs here found there a.flag c.subtree_end-end.result c.is_shown.result c.is_shown.ensures ends)
    c.send_tree.ensures
