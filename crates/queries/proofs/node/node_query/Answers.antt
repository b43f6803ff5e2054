-- `queries::node::node_query` meets its contract: the refusal as the argument was judged, and the reply by who stands where.
use Rattle.std.proofs.Common.{ℕ, ◌*◌, ◌+◌, List, get_or, sym, ap, ◌∙◌}
use Rattle.std.proofs.lemmas.Result.{err_from_is_err_and}
use borrow.Author.Tests.{eq-eqb, ne_eqb}
use Rattle.words.specs.Parts.{region}
use Rattle.nodes.specs.Place.{group_slot}
use Rattle.nodes.specs.Structure.{no_node, first_or, last_or}
use Rattle.nodes.specs.Table.{width, slot_field}
use Rattle.tree.specs.Around.{next_at, next_told, children_at, children_of-at}
use Rattle.model.specs.declared.Query.TheVariants as query
use Rattle.model.specs.Layout.{count_in, nodes_place, nodes_words, record_in}
use Rattle.queries.specs.Answers.{reply-refused, reply-sent}
use Rattle.queries.specs.Held.{At}
use Rattle.queries.specs.Info.{here_number, around, group-info, synth_info, node_fires, node_passes}
use Rattle.queries.proofs.node.node_query.Goals as goal

pub returns-in_err-at : goal.returns-in_err-at
returns-in_err-at c =
    let a = c.args in
    let p = err_from_is_err_and c.from_residual.result c.from_residual.ensures.1 in
    rw (p.1, p.2)
    (reply-refused (query.Node a.node) a.bytes.now a.words.now a.arena.now a.out.now _ (node_fires a.node a.bytes.now a.words.now a.arena.now _ c.in_err-at.ensures))

pub returns-then-nodes-at-eq-GROUP : goal.returns-then-nodes-at-eq-GROUP
returns-then-nodes-at-eq-GROUP c =
    let a = c.args in
    let ws = a.words.now in
    let bs = a.arena.now in
    let here : ℕ = c.in_ok-at.at in
    let found = c.in_ok-at.ensures in
    let there : At ws bs here = record { state = c.requires; live = found.live } in
    let us = region nodes_place nodes_words ws in
    let m : ℕ = (record_in ws here).number in
    let children = ap (λ (k : ℕ). children_at k us here) c.wide-count.ensures ∙ sym (children_of-at (count_in ws) us m here (here_number a.node ws bs here found there) found.live) in
    reply-sent (query.Node a.node) a.bytes.now ws bs a.out.now _ _ _ (node_passes a.node a.bytes.now ws bs here found)
    (group-info a.node a.bytes.now ws bs here found there (eq-eqb (get_or us (width * here + slot_field) 0) group_slot c.if-nodes-at-eq-GROUP.true) _ _ _ _ _
    (around a.node ws bs here found there _ _ _
    (c.unwrap_or-parent.ensures ∙ c.parent_of.ensures no_node)
    (c.unwrap_or-previous.ensures ∙ c.previous_of.ensures no_node)
    (c.unwrap_or-next.ensures ∙ c.next_of.ensures no_node ∙ next_told c.wide-count.result us here ∙ ap (λ (k : ℕ). next_at k us here) c.wide-count.ensures))
    (c.unwrap_or-head.ensures ∙ c.head_of.ensures no_node ∙ ap (λ (l : List ℕ). first_or no_node l) children)
    (c.unwrap_or-tail.ensures ∙ c.tail_of.ensures no_node ∙ ap (λ (l : List ℕ). last_or no_node l) children))
    c.send_words.ensures

pub returns : goal.returns
returns c =
    let a = c.args in
    let ws = a.words.now in
    let bs = a.arena.now in
    let here : ℕ = c.in_ok-at.at in
    let found = c.in_ok-at.ensures in
    let there : At ws bs here = record { state = c.requires; live = found.live } in
    let us = region nodes_place nodes_words ws in
    reply-sent (query.Node a.node) a.bytes.now ws bs a.out.now _ _ _ (node_passes a.node a.bytes.now ws bs here found)
    (synth_info a.node a.bytes.now ws bs here found there (ne_eqb (get_or us (width * here + slot_field) 0) group_slot c.if-nodes-at-eq-GROUP.false) _ _ _
    (around a.node ws bs here found there _ _ _
    (c.unwrap_or-parent.ensures ∙ c.parent_of.ensures no_node)
    (c.unwrap_or-previous.ensures ∙ c.previous_of.ensures no_node)
    (c.unwrap_or-next.ensures ∙ c.next_of.ensures no_node ∙ next_told c.wide-count.result us here ∙ ap (λ (k : ℕ). next_at k us here) c.wide-count.ensures)))
    c.send_words-2.ensures
