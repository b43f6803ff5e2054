use Prim.Native.Nat.{ℕ, ◌+◌, ◌*◌}
use mathlib.Core.Path.{sym, ap, ◌∙◌}
use mathlib.Core.List.{List}
use native.Mathlib.Omega.{arith}
use lib.ListN.{drop, get_or}
use Rattle.std.proofs.Common.{Option, unwrap_or}
use Rattle.nodes.specs.Table.{width, rows, depth_field}
use Rattle.nodes.specs.Structure.{last_or}
use Rattle.tree.specs.Around.{child_numbers, child_numbers_stop, child_numbers_child, child_numbers_skip, child_numbers_end}
use Rattle.tree.proofs.structure.tail_of.Goals as goal
use Rattle.tree.proofs.structure.tail_of.Goals.{then-other-depth-eq1, else-other-depth-eq1}

pub returns-then-other-depth : goal.returns-then-other-depth
unfolding last_or
returns-then-other-depth c =
    λ (none : ℕ).
    let a = c.args in
    let us = a.nodes.now in
    let d = get_or us (width * a.at + depth_field) 0 in
    ap (λ (k : List ℕ). last_or (unwrap_or c.loop-i.last none) k) (sym (child_numbers_stop a.count us d c.loop-i.i (omega arith) c.if-other-depth.true))
    ∙ c.loop-i.invariant none

pub loop-i-preserved : goal.loop-i-preserved
unfolding last_or
loop-i-preserved c =
    λ (none : ℕ).
    let a = c.args in
    let us = a.nodes.now in
    let d = get_or us (width * a.at + depth_field) 0 in
    let rest = child_numbers d (drop (c.loop-i.i + 1) (rows a.count us)) in
    elim c.if-other-depth-eq1.branch [
      | then-other-depth-eq1 w ↦ ap (λ (x : Option ℕ). last_or (unwrap_or x none) rest) w.last-is ∙ ap (λ (k : List ℕ). last_or (unwrap_or c.loop-i.last none) k) (sym (child_numbers_child a.count us d c.loop-i.i (omega arith) (omega arith) w.if-other-depth-eq1.true))
      | else-other-depth-eq1 w ↦ ap (λ (x : Option ℕ). last_or (unwrap_or x none) rest) w.last-is ∙ ap (λ (k : List ℕ). last_or (unwrap_or c.loop-i.last none) k) (sym (child_numbers_skip a.count us d c.loop-i.i (omega arith) (omega arith) w.if-other-depth-eq1.false))
    ]
    ∙ c.loop-i.invariant none

pub returns : goal.returns
unfolding last_or
returns c =
    λ (none : ℕ).
    let a = c.args in
    let us = a.nodes.now in
    let d = get_or us (width * a.at + depth_field) 0 in
    ap (λ (k : List ℕ). last_or (unwrap_or c.loop-i.last none) k) (sym (child_numbers_end a.count us d c.loop-i.i (omega arith)))
    ∙ c.loop-i.invariant none
