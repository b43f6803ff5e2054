-- `statecheck::tree_formed` meets its contract: each part tested is what its function ensures, and that numbers differ is the index's rule.
use mathlib.Core.Bool.{true}
use mathlib.Core.Path.{◌≡◌, sym, ◌∙◌}
use native.Mathlib.Omega.{arith}
use Rattle.statecheck.specs.Parts.{hold_part, index_part, index_fits, tree_many, tree_nodes, tree_index, tree_order}
use Rattle.statecheck.proofs.tree_formed.Goals as goal

pub returns-then-count-gt-MOST_NODES : goal.returns-then-count-gt-MOST_NODES
returns-then-count-gt-MOST_NODES c =
    let a = c.args in
    sym (tree_many a.words.now c.wide-count.result c.wide-count.ensures c.if-count-gt-MOST_NODES.true)

pub returns-then-not-nodes_hold : goal.returns-then-not-nodes_hold
returns-then-not-nodes_hold c =
    let a = c.args in
    sym (tree_nodes a.words.now c.wide-count.result c.wide-count.ensures (omega arith) (sym c.nodes_hold.ensures ∙ c.if-not-nodes_hold.true))

pub index_formed-requires : goal.index_formed-requires
index_formed-requires c =
    index_fits c.args.words.now c.wide-count.result c.wide-count.ensures c.requires (omega arith)

pub returns-then-not-index_formed : goal.returns-then-not-index_formed
returns-then-not-index_formed c =
    let a = c.args in
    let nodes : hold_part c.wide-count.result a.words.now ≡ true = sym c.nodes_hold.ensures ∙ c.if-not-nodes_hold.false in
    sym (tree_index a.words.now c.wide-count.result c.wide-count.ensures (omega arith) nodes (sym c.index_formed.ensures ∙ c.if-not-index_formed.true))

pub returns : goal.returns
returns c =
    let a = c.args in
    let nodes : hold_part c.wide-count.result a.words.now ≡ true = sym c.nodes_hold.ensures ∙ c.if-not-nodes_hold.false in
    let index : index_part c.wide-count.result a.words.now ≡ true = sym c.index_formed.ensures ∙ c.if-not-index_formed.false in
    c.same_order.ensures ∙ sym (tree_order a.words.now c.wide-count.result c.wide-count.ensures (omega arith) nodes c.wide-many.result c.wide-many.ensures index)
