use lib.Dec.{eqb}
use lib.ListN.{get_or-replicate}
use Rattle.definitions.specs.Holders.{held_turn, held_end, held-set, held_skip}
use Rattle.model.specs.Engine as engine
use Rattle.words.specs.Choice.{either}
use Rattle.nodes.specs.Table.{width, rows, slot_field}
use Prim.Native.Nat.{ℕ, ◌+◌, ◌*◌}
use mathlib.Core.Bool.{Bool, true, false}
use mathlib.Core.Path.{◌≡◌, refl, sym, ap, ◌∙◌}
use mathlib.Core.List.{List}
use native.Mathlib.Omega.{arith}
use lib.ListN.{length, drop, get_or, length-set}
use Rattle.definitions.proofs.held_slots.Goals as goal
use Rattle.definitions.proofs.held_slots.Goals.{then-slot-lt-SLOTS, else-slot-lt-SLOTS}

pub loop-i-init : goal.loop-i-init
loop-i-init c = (refl, λ k h. rw (get_or-replicate 32 k false false h))

pub loop-i-preserved : goal.loop-i-preserved
loop-i-preserved c =
    let i = c.loop-i.i in
    let l = c.loop-i.invariant in
    let held = c.loop-i.held in
    let a = c.args in
    let slot = c.wide-slot.result in
    let same : slot ≡ get_or a.nodes.now (width * i + slot_field) 0 = c.wide-slot.ensures in
    let rest : ℕ → Bool = λ k. engine.held k (drop (i + 1) (rows a.count a.nodes.now)) in
    let turn : (k : ℕ) → engine.held k (drop i (rows a.count a.nodes.now)) ≡ either (eqb slot k) (rest k) =
    λ k. held_turn a.count a.nodes.now k i (omega arith) ∙ ap (λ (s : ℕ). either (eqb s k) (rest k)) (sym same) in
    elim c.if-slot-lt-SLOTS.branch [
      | then-slot-lt-SLOTS case ↦ (
        ap length case.held-is ∙ length-set held slot true ∙ l.0,
        λ k h.
            ap (λ (t : List Bool). either (get_or t k false) (rest k)) case.held-is ∙ held-set held slot k (rest k) (omega arith) ∙ ap (λ (b : Bool). either (get_or held k false) b) (sym (turn k)) ∙ l.1 k h,
      )
      | else-slot-lt-SLOTS case ↦ (
        ap length case.held-is ∙ l.0,
        λ k h.
            ap (λ (t : List Bool). either (get_or t k false) (rest k)) case.held-is ∙ ap (λ (b : Bool). either (get_or held k false) b) (sym (turn k ∙ held_skip slot k (rest k) case.if-slot-lt-SLOTS.false h)) ∙ l.1 k h,
      )
    ]

pub returns : goal.returns
returns c =
    let l = c.loop-i.invariant in
    let a = c.args in
    record {
      size = l.0;
      each = λ k h. or_false (get_or c.loop-i.held k false) ∙ rw (held_end a.count a.nodes.now k c.loop-i.i (omega arith)) at (l.1 k h);
    }
  where
    or_false : (b : Bool) → b ≡ either b false
    or_false true = refl
    or_false false = refl
