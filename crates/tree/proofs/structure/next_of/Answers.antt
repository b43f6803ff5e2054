-- `tree::structure::next_of` meets its contract: what follows the run, where it is at the node's depth.
use Prim.Native.Nat.{ℕ}
use mathlib.Core.Path.{sym, ap, ◌∙◌}
use native.Mathlib.Omega.{arith}
use borrow.Author.Tests.{eq-eqb, ne_eqb}
use lib.ListN.{drop}
use Rattle.nodes.specs.Table.{rows}
use Rattle.tree.specs.Around.{first_beside_or, beside_or_turn, beside_or_end}
use Rattle.nodes.specs.Sizes.{depth_at}
use Rattle.tree.proofs.structure.next_of.Goals as goal
use Rattle.tree.proofs.structure.next_of.Goals.{else-end-count-via-then-end-count+else-nodes-end, else-end-count-via-else-end-count}

pub returns-then-nodes-end : goal.returns-then-nodes-end
returns-then-nodes-end c =
    λ (none : ℕ).
    let a = c.args in
    let us = a.nodes.now in
    sym (ap (λ (k : ℕ). first_beside_or none (depth_at us a.at) (drop k (rows a.count us))) (sym c.subtree_end-end.ensures) ∙ rw (eq-eqb (depth_at us c.subtree_end-end.result) (depth_at us a.at) c.if-nodes-end.true) at (beside_or_turn none a.count us (depth_at us a.at) c.subtree_end-end.result (omega arith)))

pub returns-else-end-count : goal.returns-else-end-count
returns-else-end-count c =
    λ (none : ℕ).
    let a = c.args in
    let us = a.nodes.now in
    let d = depth_at us a.at in
    let end = c.subtree_end-end.result in
    let from = ap (λ (k : ℕ). first_beside_or none d (drop k (rows a.count us))) (sym c.subtree_end-end.ensures) in
    elim c.else-end-count.branch [
      | else-end-count-via-then-end-count+else-nodes-end w ↦ sym (from ∙ rw (ne_eqb (depth_at us end) d w.if-nodes-end.false) at (beside_or_turn none a.count us d end (omega arith)))
      | else-end-count-via-else-end-count w ↦ sym (from ∙ beside_or_end none a.count us d end (omega arith))
    ]
