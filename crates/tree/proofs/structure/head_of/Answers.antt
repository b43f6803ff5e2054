use Prim.Native.Nat.{ℕ, ◌+◌, ◌*◌}
use mathlib.Core.Path.{sym, ap, ◌∙◌}
use mathlib.Core.List.{List}
use native.Mathlib.Omega.{arith}
use lib.ListN.{get_or}
use Rattle.nodes.specs.Table.{width, depth_field}
use Rattle.nodes.specs.Structure.{first_or}
use Rattle.tree.specs.Around.{child_numbers_stop, child_numbers_child, child_numbers_skip, child_numbers_end}
use Rattle.tree.proofs.structure.head_of.Goals as goal

pub returns-then-other-depth : goal.returns-then-other-depth
unfolding first_or
returns-then-other-depth c =
    λ (none : ℕ).
    let a = c.args in
    let us = a.nodes.now in
    let d = get_or us (width * a.at + depth_field) 0 in
    ap (λ (k : List ℕ). first_or none k) (sym (child_numbers_stop a.count us d c.loop-i.i (omega arith) c.if-other-depth.true))
    ∙ c.loop-i.invariant none

pub returns-then-other-depth-eq1 : goal.returns-then-other-depth-eq1
unfolding first_or
returns-then-other-depth-eq1 c =
    λ (none : ℕ).
    let a = c.args in
    let us = a.nodes.now in
    let d = get_or us (width * a.at + depth_field) 0 in
    ap (λ (k : List ℕ). first_or none k) (sym (child_numbers_child a.count us d c.loop-i.i (omega arith) (omega arith) c.if-other-depth-eq1.true))
    ∙ c.loop-i.invariant none

pub loop-i-preserved : goal.loop-i-preserved
loop-i-preserved c =
    λ (none : ℕ).
    let a = c.args in
    let us = a.nodes.now in
    let d = get_or us (width * a.at + depth_field) 0 in
    ap (λ (k : List ℕ). first_or none k) (sym (child_numbers_skip a.count us d c.loop-i.i (omega arith) (omega arith) c.if-other-depth-eq1.false)) ∙ c.loop-i.invariant none

pub returns : goal.returns
unfolding first_or
returns c =
    λ (none : ℕ).
    let a = c.args in
    let us = a.nodes.now in
    let d = get_or us (width * a.at + depth_field) 0 in
    ap (λ (k : List ℕ). first_or none k) (sym (child_numbers_end a.count us d c.loop-i.i (omega arith)))
    ∙ c.loop-i.invariant none
