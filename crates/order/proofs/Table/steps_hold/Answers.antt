use Prim.Native.Nat.{ℕ, ◌+◌, ◌*◌, ◌≤◌, ◌<◌}
use mathlib.Core.Bool.{Bool}
use mathlib.Core.Path.{◌≡◌, sym, ap, ◌∙◌}
use native.Mathlib.Omega.{arith}
use borrow.Author.Tests.{lt-ltb, le-leb, eq-eqb, ne_eqb}
use lib.ListN.{drop, get_or}
use Rattle.words.specs.Choice.{pick}
use Rattle.nodes.specs.Table.{width, node_from, depth_field, slot_field}
use Rattle.nodes.specs.Formed.{reach, steps}
use Rattle.order.specs.Tables.{rows_of}
use Rattle.order.specs.Checks.{steps_turn}
use Rattle.order.proofs.Table.steps_hold.Goals as goal
use Rattle.order.proofs.Table.steps_hold.Goals.{then-self-at-eq-GROUP, else-self-at-eq-GROUP}

pub loop-i-preserved : goal.loop-i-preserved
loop-i-preserved c =
    let a = c.args.self in
    let us = a.nodes.now in
    let i = c.loop-i.i in
    let t = rows_of a in
    let d = get_or us (width * i + depth_field) 0 in
    let some : 0 < d = omega arith in
    let near : d ≤ c.loop-i.most = omega arith in
    let on : steps (reach (node_from us (width * i))) (drop (i + 1) t) ≡ steps 1 (drop 1 t) =
    sym (rw (lt-ltb 0 d some, le-leb d c.loop-i.most near) at (steps_turn a.count us c.loop-i.most i (omega arith))) ∙ c.loop-i.invariant.1 in
    let now : (c.if-self-at-eq-GROUP.most ≤ i + 1) × (c.if-self-at-eq-GROUP.most ≡ reach (node_from us (width * i))) =
    elim c.if-self-at-eq-GROUP.branch [
      | then-self-at-eq-GROUP w ↦ (omega arith, w.most-is ∙ sym (ap (λ (g : Bool). pick g (d + 1) d) (eq-eqb (get_or us (width * i + slot_field) 0) 32 w.if-self-at-eq-GROUP.true)))
      | else-self-at-eq-GROUP w ↦ (omega arith, w.most-is ∙ sym (ap (λ (g : Bool). pick g (d + 1) d) (ne_eqb (get_or us (width * i + slot_field) 0) 32 w.if-self-at-eq-GROUP.false)))
    ] in
    (now.0, ap (λ (k : ℕ). steps k (drop (i + 1) t)) now.1 ∙ on)
