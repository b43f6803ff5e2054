use Prim.Native.Nat.{ℕ, ◌+◌, ◌*◌, ◌<◌}
use mathlib.Core.Path.{refl, sym, ap, ◌∙◌, subst}
use mathlib.Core.List.{List}
use native.Mathlib.Nat.{pos_of_ne-zero}
use native.Mathlib.Omega.{arith}
use Rattle.readable.specs.Lookup.{units_in}
use Rattle.readable.specs.Readable.{ReadableWhole}
use Rattle.model.specs.Layout.{count_in}
use Rattle.controls.specs.Encoded.{number_or}
use Rattle.queries.specs.Tally.{slotted, tallies_few, held_slot, summed_last, summed_all, summed_left, summed_same, summed_few, summed_more}
use Rattle.queries.proofs.status.units_held.Goals as goal
use Rattle.queries.proofs.status.units_held.Goals.{then-many-ne0+else-left-eq0, else-many-ne0}

pub total-many-requires : goal.total-many-requires
total-many-requires c =
    let a = c.args in
    (omega arith, tallies_few a.words.now a.counts.now (slotted a.words.now a.arena.now c.requires.0) c.requires.1 c.loop-k.k (omega arith))

pub units-requires : goal.units-requires
units-requires c =
    let ws = c.args.words.now in
    let some = pos_of_ne-zero (λ e. c.if-many-ne0.true (c.total-many.ensures ∙ c.requires.1 c.loop-k.k (omega arith) ∙ e)) in
    subst ReadableWhole (sym c.slot_bytes.ensures) (held_slot ws c.args.arena.now c.loop-k.k c.requires.0 (omega arith) (count_in ws) 0 (omega arith) some)

pub overflow_add-units : goal.overflow_add-units
overflow_add-units c =
    let low : c.wide-then-many-ne0.result < 4294967296 = omega (arith, c.wide-then-many-ne0.ensures, c.units) in
    omega
    (arith, summed_few c.args.words.now c.args.arena.now c.requires.0 c.loop-k.k c.loop-k.left c.loop-k.units c.loop-k.invariant (omega arith) c.wide.result (c.wide.ensures ∙ c.total-many.ensures ∙ c.requires.1 c.loop-k.k (omega arith)) c.wide-then-many-ne0.result low)

pub overflow_sub-left : goal.overflow_sub-left
overflow_sub-left c =
    let a = c.args in
    summed_left a.words.now a.arena.now c.requires.0 c.loop-k.k c.loop-k.left c.loop-k.units c.loop-k.invariant (omega arith) c.total-many.result (c.total-many.ensures ∙ c.requires.1 c.loop-k.k (omega arith))

pub returns-then-left-eq0 : goal.returns-then-left-eq0
returns-then-left-eq0 c =
    let ws = c.args.words.now in
    let bs = c.args.arena.now in
    let low : c.wide-then-many-ne0.result < 4294967296 = omega (arith, c.wide-then-many-ne0.ensures, c.units) in
    let units = c.wide-then-many-ne0.ensures ∙ ap number_or c.units.ensures ∙ ap (λ (d : List ℕ). number_or (units_in d)) c.slot_bytes.ensures in
    let more = summed_more ws bs c.requires.0 c.loop-k.k c.loop-k.left c.loop-k.units c.loop-k.invariant (omega arith) c.wide.result (c.wide.ensures ∙ c.total-many.ensures ∙ c.requires.1 c.loop-k.k (omega arith)) c.wide-then-many-ne0.result low units 0 (c.loop-k.units + c.wide.result * c.wide-then-many-ne0.result) (omega (arith, c.wide.ensures, c.if-left-eq0.true)) refl in
    summed_last ws bs c.requires.0 (c.loop-k.k + 1) 0 (c.loop-k.units + c.wide.result * c.wide-then-many-ne0.result) more refl

pub loop-k-preserved : goal.loop-k-preserved
loop-k-preserved c =
    let a = c.args in
    let ws = a.words.now in
    let bs = a.arena.now in
    let held = c.total-many.ensures ∙ c.requires.1 c.loop-k.k (omega arith) in
    elim c.if-many-ne0.branch [
      | then-many-ne0+else-left-eq0 b ↦ let low : b.wide-then-many-ne0.result < 4294967296 = omega (arith, b.wide-then-many-ne0.ensures, b.units) in
          let units = b.wide-then-many-ne0.ensures ∙ ap number_or b.units.ensures ∙ ap (λ (d : List ℕ). number_or (units_in d)) b.slot_bytes.ensures in
          summed_more ws bs c.requires.0 c.loop-k.k c.loop-k.left c.loop-k.units c.loop-k.invariant (omega arith) b.wide.result (b.wide.ensures ∙ held) b.wide-then-many-ne0.result low units c.if-many-ne0.left c.if-many-ne0.units (omega (arith, b.left-is, b.wide.ensures)) b.units-is
      | else-many-ne0 b ↦ summed_same ws bs c.requires.0 c.loop-k.k c.loop-k.left c.loop-k.units c.loop-k.invariant (omega arith) c.total-many.result held b.if-many-ne0.false c.if-many-ne0.left c.if-many-ne0.units b.left-is b.units-is
    ]

pub returns : goal.returns
returns c =
    summed_all c.args.words.now c.args.arena.now c.requires.0 c.loop-k.k c.loop-k.left c.loop-k.units c.loop-k.invariant (omega arith)

pub overflow_mul-units : goal.overflow_mul-units
overflow_mul-units c = omega (arith, overflow_add-units c)
