use Rattle.format.specs.Fields.{value_by}
use Rattle.format.specs.declared.Width.TheVariants.{Short}
use Rattle.words.specs.Parts.{region}
use Rattle.widening.specs.Pieces.{integer_wide, body_wide, body_past, body_onward, counts_at, inputs_at, outputs_at, unit_wide, unit_past}
use Rattle.widening.specs.Moved.{room_first, room-last, moved_then}
use Prim.Native.Nat.{ℕ, ◌+◌}
use mathlib.Core.Path.{◌≡◌, ap, ◌∙◌}
use mathlib.Core.List.{◌++◌}
use native.Mathlib.Omega.{arith}
use lib.ListN.{get_or}
use Rattle.widening.proofs.unit.UnitPiece.widen.Goals as goal

pub bounds-s-at : goal.bounds-s-at
unfolding unit_past
bounds-s-at c =
    let a = c.args in
    let s = a.s.now in
    let at = a.at.from in
    omega (arith, body_onward (inputs_at s at) (outputs_at s at) (counts_at s at + 2 + 2), c.requires.inside)

pub overflow_cast-size : goal.overflow_cast-size
overflow_cast-size c = omega (arith, c.type_inv.s c.args.at.from)

pub overflow_add-size : goal.overflow_add-size
overflow_add-size c = omega (arith, c.type_inv.s c.args.at.from)

pub keep-p1-requires : goal.keep-p1-requires
unfolding unit_wide unit_past
keep-p1-requires c =
    let a = c.args in
    let s = a.s.now in
    let at = a.at.from in
    let i = inputs_at s at in
    let o = outputs_at s at in
    room_first (region at (2 + get_or s at 0) s) (integer_wide s (counts_at s at) ++ (integer_wide s (counts_at s at + 2) ++ body_wide s i o (counts_at s at + 2 + 2))) c.requires (omega (arith, body_onward i o (counts_at s at + 2 + 2)))

pub value_at-inputs-requires : goal.value_at-inputs-requires
unfolding unit_wide unit_past
value_at-inputs-requires c =
    let a = c.args in
    let s = a.s.now in
    let at = a.at.from in
    let i = inputs_at s at in
    let o = outputs_at s at in
    let p1 = c.keep-p1.result.from in
    let r1 = room-last (λ p. integer_wide s p ++ (integer_wide s (p + 2) ++ body_wide s i o (p + 2 + 2))) (λ p. body_past i o (p + 2 + 2)) c.requires c.keep-p1.ensures in
    omega (arith, body_onward i o (p1 + 2 + 2), r1.inside)

pub integer-p2-requires : goal.integer-p2-requires
unfolding unit_wide unit_past
integer-p2-requires c =
    let a = c.args in
    let s = a.s.now in
    let at = a.at.from in
    let i = inputs_at s at in
    let o = outputs_at s at in
    let p1 = c.keep-p1.result.from in
    let r1 = room-last (λ p. integer_wide s p ++ (integer_wide s (p + 2) ++ body_wide s i o (p + 2 + 2))) (λ p. body_past i o (p + 2 + 2)) c.requires c.keep-p1.ensures in
    room_first (integer_wide s p1) (integer_wide s (p1 + 2) ++ body_wide s i o (p1 + 2 + 2)) r1 (omega (arith, body_onward i o (p1 + 2 + 2)))

pub value_at-outputs-requires : goal.value_at-outputs-requires
unfolding unit_wide unit_past
value_at-outputs-requires c =
    let a = c.args in
    let s = a.s.now in
    let at = a.at.from in
    let i = inputs_at s at in
    let o = outputs_at s at in
    let p1 = c.keep-p1.result.from in
    let r1 = room-last (λ p. integer_wide s p ++ (integer_wide s (p + 2) ++ body_wide s i o (p + 2 + 2))) (λ p. body_past i o (p + 2 + 2)) c.requires c.keep-p1.ensures in
    let p2 = c.integer-p2.result.from in
    let r2 = room-last (λ p. integer_wide s p ++ body_wide s i o (p + 2)) (λ p. body_past i o (p + 2)) r1 c.integer-p2.ensures in
    omega (arith, body_onward i o (p2 + 2), r2.inside)

pub integer-p3-requires : goal.integer-p3-requires
unfolding unit_wide unit_past
integer-p3-requires c =
    let a = c.args in
    let s = a.s.now in
    let at = a.at.from in
    let i = inputs_at s at in
    let o = outputs_at s at in
    let p1 = c.keep-p1.result.from in
    let r1 = room-last (λ p. integer_wide s p ++ (integer_wide s (p + 2) ++ body_wide s i o (p + 2 + 2))) (λ p. body_past i o (p + 2 + 2)) c.requires c.keep-p1.ensures in
    let p2 = c.integer-p2.result.from in
    let r2 = room-last (λ p. integer_wide s p ++ body_wide s i o (p + 2)) (λ p. body_past i o (p + 2)) r1 c.integer-p2.ensures in
    room_first (integer_wide s p2) (body_wide s i o (p2 + 2)) r2 (omega (arith, body_onward i o (p2 + 2)))

pub widen_body-requires : goal.widen_body-requires
unfolding unit_wide unit_past
widen_body-requires c =
    let a = c.args in
    let s = a.s.now in
    let at = a.at.from in
    let i = inputs_at s at in
    let o = outputs_at s at in
    let p1 = c.keep-p1.result.from in
    let r1 = room-last (λ p. integer_wide s p ++ (integer_wide s (p + 2) ++ body_wide s i o (p + 2 + 2))) (λ p. body_past i o (p + 2 + 2)) c.requires c.keep-p1.ensures in
    let p2 = c.integer-p2.result.from in
    let r2 = room-last (λ p. integer_wide s p ++ body_wide s i o (p + 2)) (λ p. body_past i o (p + 2)) r1 c.integer-p2.ensures in
    let first : p1 ≡ counts_at s at = c.keep-p1.ensures.from in
    let second : p2 ≡ counts_at s at + 2 = c.integer-p2.ensures.from ∙ ap (λ (p : ℕ). p + 2) first in
    let many : c.value_at-inputs.result ≡ i = c.value_at-inputs.ensures ∙ ap (λ (p : ℕ). value_by Short s p) first in
    let out : c.value_at-outputs.result ≡ o = c.value_at-outputs.ensures ∙ ap (λ (p : ℕ). value_by Short s p) second in
    rw (many, out) (room-last (λ p. body_wide s i o p) (λ p. body_past i o p) r2 c.integer-p3.ensures)

pub returns : goal.returns
unfolding unit_wide unit_past
returns c =
    let a = c.args in
    let s = a.s.now in
    let at = a.at.from in
    let i = inputs_at s at in
    let o = outputs_at s at in
    let p1 = c.keep-p1.result.from in
    let r1 = room-last (λ p. integer_wide s p ++ (integer_wide s (p + 2) ++ body_wide s i o (p + 2 + 2))) (λ p. body_past i o (p + 2 + 2)) c.requires c.keep-p1.ensures in
    let p2 = c.integer-p2.result.from in
    let r2 = room-last (λ p. integer_wide s p ++ body_wide s i o (p + 2)) (λ p. body_past i o (p + 2)) r1 c.integer-p2.ensures in
    let first : p1 ≡ counts_at s at = c.keep-p1.ensures.from in
    let second : p2 ≡ counts_at s at + 2 = c.integer-p2.ensures.from ∙ ap (λ (p : ℕ). p + 2) first in
    let many : c.value_at-inputs.result ≡ i = c.value_at-inputs.ensures ∙ ap (λ (p : ℕ). value_by Short s p) first in
    let out : c.value_at-outputs.result ≡ o = c.value_at-outputs.ensures ∙ ap (λ (p : ℕ). value_by Short s p) second in
    let last = rw (many, out) at c.widen_body.ensures in
    moved_then (λ p. integer_wide s p ++ (integer_wide s (p + 2) ++ body_wide s i o (p + 2 + 2))) (λ p. body_past i o (p + 2 + 2)) c.keep-p1.ensures
    (moved_then (λ p. integer_wide s p ++ body_wide s i o (p + 2)) (λ p. body_past i o (p + 2)) c.integer-p2.ensures
    (moved_then (λ p. body_wide s i o p) (λ p. body_past i o p) c.integer-p3.ensures last r2.fits)
    r1.fits)
    c.requires.fits
