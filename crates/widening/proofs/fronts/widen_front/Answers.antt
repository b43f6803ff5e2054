use Rattle.format.specs.Fields.{value_by}
use Rattle.format.specs.declared.Width.TheVariants.{Short}
use Rattle.widening.specs.Pieces.{integer_wide, text_wide, text_past, floats_wide, floats_past, floats_onward, name_wide, name_past, name_onward, names_wide, names_past, names_onward, front_wide, front_past}
use Rattle.widening.specs.Walk.{wide_all, past_all, past_up}
use Rattle.widening.specs.Moved.{room_first, room-last, moved_then}
use Prim.Native.Nat.{◌+◌}
use mathlib.Core.List.{◌++◌}
use native.Mathlib.Omega.{arith}
use Rattle.widening.proofs.fronts.widen_front.Goals as goal

pub keep_text-p1-requires : goal.keep_text-p1-requires
unfolding front_wide front_past
keep_text-p1-requires c =
    let s = c.args.s.now in
    let at = c.args.at.from in
    let p1 = text_past s at in
    room_first (text_wide s at) (floats_wide s p1 ++ (floats_wide s (floats_past s p1) ++ names_wide s (floats_past s (floats_past s p1)))) c.requires
    (omega (arith, floats_onward s p1, floats_onward s (floats_past s p1), names_onward s (floats_past s (floats_past s p1))))

pub widen_floats-p2-requires : goal.widen_floats-p2-requires
unfolding front_wide front_past
widen_floats-p2-requires c =
    let s = c.args.s.now in
    let at = c.args.at.from in
    let p1 = c.keep_text-p1.result.from in
    let r1 = room-last (λ p. floats_wide s p ++ (floats_wide s (floats_past s p) ++ names_wide s (floats_past s (floats_past s p)))) (λ p. names_past s (floats_past s (floats_past s p))) c.requires c.keep_text-p1.ensures in
    room_first (floats_wide s p1) (floats_wide s (floats_past s p1) ++ names_wide s (floats_past s (floats_past s p1))) r1 (omega (arith, floats_onward s (floats_past s p1), names_onward s (floats_past s (floats_past s p1))))

pub widen_floats-p3-requires : goal.widen_floats-p3-requires
unfolding front_wide front_past
widen_floats-p3-requires c =
    let s = c.args.s.now in
    let at = c.args.at.from in
    let p1 = c.keep_text-p1.result.from in
    let r1 = room-last (λ p. floats_wide s p ++ (floats_wide s (floats_past s p) ++ names_wide s (floats_past s (floats_past s p)))) (λ p. names_past s (floats_past s (floats_past s p))) c.requires c.keep_text-p1.ensures in
    let p2 = c.widen_floats-p2.result.from in
    let r2 = room-last (λ p. floats_wide s p ++ names_wide s (floats_past s p)) (λ p. names_past s (floats_past s p)) r1 c.widen_floats-p2.ensures in
    room_first (floats_wide s p2) (names_wide s (floats_past s p2)) r2 (omega (arith, names_onward s (floats_past s p2)))

pub value_at-count-requires : goal.value_at-count-requires
unfolding front_wide front_past
value_at-count-requires c =
    let s = c.args.s.now in
    let at = c.args.at.from in
    let p1 = c.keep_text-p1.result.from in
    let r1 = room-last (λ p. floats_wide s p ++ (floats_wide s (floats_past s p) ++ names_wide s (floats_past s (floats_past s p)))) (λ p. names_past s (floats_past s (floats_past s p))) c.requires c.keep_text-p1.ensures in
    let p2 = c.widen_floats-p2.result.from in
    let r2 = room-last (λ p. floats_wide s p ++ names_wide s (floats_past s p)) (λ p. names_past s (floats_past s p)) r1 c.widen_floats-p2.ensures in
    let p3 = c.widen_floats-p3.result.from in
    let n = value_by Short s p3 in
    let r3 = room-last (λ p. names_wide s p) (λ p. names_past s p) r2 c.widen_floats-p3.ensures in
    omega (arith, past_up (name_past s) (name_onward s) n (p3 + 2), r3.inside)

pub integer-p4-requires : goal.integer-p4-requires
unfolding front_wide front_past
integer-p4-requires c =
    let s = c.args.s.now in
    let at = c.args.at.from in
    let p1 = c.keep_text-p1.result.from in
    let r1 = room-last (λ p. floats_wide s p ++ (floats_wide s (floats_past s p) ++ names_wide s (floats_past s (floats_past s p)))) (λ p. names_past s (floats_past s (floats_past s p))) c.requires c.keep_text-p1.ensures in
    let p2 = c.widen_floats-p2.result.from in
    let r2 = room-last (λ p. floats_wide s p ++ names_wide s (floats_past s p)) (λ p. names_past s (floats_past s p)) r1 c.widen_floats-p2.ensures in
    let p3 = c.widen_floats-p3.result.from in
    let n = value_by Short s p3 in
    let r3 = room-last (λ p. names_wide s p) (λ p. names_past s p) r2 c.widen_floats-p3.ensures in
    room_first (integer_wide s p3) (wide_all (name_wide s) (name_past s) n (p3 + 2)) r3 (omega (arith, past_up (name_past s) (name_onward s) n (p3 + 2)))

pub widen_all-requires : goal.widen_all-requires
unfolding front_wide front_past
widen_all-requires c =
    let s = c.args.s.now in
    let at = c.args.at.from in
    let p1 = c.keep_text-p1.result.from in
    let r1 = room-last (λ p. floats_wide s p ++ (floats_wide s (floats_past s p) ++ names_wide s (floats_past s (floats_past s p)))) (λ p. names_past s (floats_past s (floats_past s p))) c.requires c.keep_text-p1.ensures in
    let p2 = c.widen_floats-p2.result.from in
    let r2 = room-last (λ p. floats_wide s p ++ names_wide s (floats_past s p)) (λ p. names_past s (floats_past s p)) r1 c.widen_floats-p2.ensures in
    let p3 = c.widen_floats-p3.result.from in
    let n = value_by Short s p3 in
    let r3 = room-last (λ p. names_wide s p) (λ p. names_past s p) r2 c.widen_floats-p3.ensures in
    rw c.value_at-count.ensures (room-last (λ p. wide_all (name_wide s) (name_past s) n p) (λ p. past_all (name_past s) n p) r3 c.integer-p4.ensures)

pub returns : goal.returns
unfolding front_wide front_past
returns c =
    let s = c.args.s.now in
    let at = c.args.at.from in
    let p1 = c.keep_text-p1.result.from in
    let r1 = room-last (λ p. floats_wide s p ++ (floats_wide s (floats_past s p) ++ names_wide s (floats_past s (floats_past s p)))) (λ p. names_past s (floats_past s (floats_past s p))) c.requires c.keep_text-p1.ensures in
    let p2 = c.widen_floats-p2.result.from in
    let r2 = room-last (λ p. floats_wide s p ++ names_wide s (floats_past s p)) (λ p. names_past s (floats_past s p)) r1 c.widen_floats-p2.ensures in
    let p3 = c.widen_floats-p3.result.from in
    let n = value_by Short s p3 in
    let r3 = room-last (λ p. names_wide s p) (λ p. names_past s p) r2 c.widen_floats-p3.ensures in
    let last = rw c.value_at-count.ensures at c.widen_all.ensures in
    moved_then (λ p. floats_wide s p ++ (floats_wide s (floats_past s p) ++ names_wide s (floats_past s (floats_past s p)))) (λ p. names_past s (floats_past s (floats_past s p))) c.keep_text-p1.ensures
    (moved_then (λ p. floats_wide s p ++ names_wide s (floats_past s p)) (λ p. names_past s (floats_past s p)) c.widen_floats-p2.ensures
    (moved_then (λ p. names_wide s p) (λ p. names_past s p) c.widen_floats-p3.ensures
    (moved_then (λ p. wide_all (name_wide s) (name_past s) n p) (λ p. past_all (name_past s) n p) c.integer-p4.ensures last r3.fits)
    r2.fits)
    r1.fits)
    c.requires.fits
