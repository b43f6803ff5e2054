use Rattle.format.specs.Fields.{value_by}
use Rattle.format.specs.declared.Width.TheVariants.{Short}
use Rattle.words.specs.Parts.{region}
use Rattle.words.specs.Bytes.{AreBytes}
use Rattle.widening.specs.Encoded.{encoded}
use Rattle.widening.specs.Widened.{definition-wide}
use Rattle.widening.specs.Pieces.{integer_wide, front_wide, front_past, unit_wide, unit_past, unit_onward, units_past, rest_wide, definition_wide}
use Rattle.widening.specs.Walk.{wide_all, past_all, past_up}
use Rattle.widening.specs.Moved.{Room, Moved, room_first, room_rest, moved_then}
use Prim.Native.Nat.{ℕ, ◌+◌, ◌-◌, ◌≤◌}
use mathlib.Core.Path.{◌≡◌, ap}
use mathlib.Core.List.{◌++◌}
use native.Mathlib.Omega.{arith}
use Rattle.widening.proofs.definition.widen_short.Goals as goal

pub widen_front-p1-requires : goal.widen_front-p1-requires
unfolding definition_wide
widen_front-p1-requires c =
    let s = c.args.s.now in
    let at = c.args.at in
    let end = c.args.end in
    let b : AreBytes s = λ i. (c.type_inv.s i).fits in
    let whole = definition-wide s b at c.requires.readable.read in
    let r0 : Room s c.args.out.now (record { from = at; to = c.args.place }) (definition_wide s end at) end = record { inside = whole.inside; fits = rw whole.bytes at c.requires.room } in
    room_first (front_wide s at) (rest_wide s end (front_past s at)) r0 (omega (arith, past_up (unit_past s) (unit_onward s) (value_by Short s (front_past s at)) (front_past s at + 2), whole.forward))

pub value_at-count-requires : goal.value_at-count-requires
unfolding definition_wide
value_at-count-requires c =
    let s = c.args.s.now in
    let at = c.args.at in
    let end = c.args.end in
    let b : AreBytes s = λ i. (c.type_inv.s i).fits in
    let whole = definition-wide s b at c.requires.readable.read in
    let r0 : Room s c.args.out.now (record { from = at; to = c.args.place }) (definition_wide s end at) end = record { inside = whole.inside; fits = rw whole.bytes at c.requires.room } in
    let p1 = c.widen_front-p1.result.from in
    let n = value_by Short s p1 in
    let r1 = room_rest (λ q. rest_wide s end q) r0 c.widen_front-p1.ensures in
    let forward : units_past s p1 ≤ end = rw c.widen_front-p1.ensures.from whole.forward in
    omega (arith, past_up (unit_past s) (unit_onward s) n (p1 + 2), forward, whole.inside)

pub integer-p2-requires : goal.integer-p2-requires
unfolding definition_wide
integer-p2-requires c =
    let s = c.args.s.now in
    let at = c.args.at in
    let end = c.args.end in
    let b : AreBytes s = λ i. (c.type_inv.s i).fits in
    let whole = definition-wide s b at c.requires.readable.read in
    let r0 : Room s c.args.out.now (record { from = at; to = c.args.place }) (definition_wide s end at) end = record { inside = whole.inside; fits = rw whole.bytes at c.requires.room } in
    let p1 = c.widen_front-p1.result.from in
    let n = value_by Short s p1 in
    let r1 = room_rest (λ q. rest_wide s end q) r0 c.widen_front-p1.ensures in
    let forward : units_past s p1 ≤ end = rw c.widen_front-p1.ensures.from whole.forward in
    room_first (integer_wide s p1) (wide_all (unit_wide s) (unit_past s) n (p1 + 2) ++ region (units_past s p1) (end - units_past s p1) s) r1 (omega (arith, past_up (unit_past s) (unit_onward s) n (p1 + 2), forward))

pub widen_all-p3-requires : goal.widen_all-p3-requires
unfolding definition_wide
widen_all-p3-requires c =
    let s = c.args.s.now in
    let at = c.args.at in
    let end = c.args.end in
    let b : AreBytes s = λ i. (c.type_inv.s i).fits in
    let whole = definition-wide s b at c.requires.readable.read in
    let r0 : Room s c.args.out.now (record { from = at; to = c.args.place }) (definition_wide s end at) end = record { inside = whole.inside; fits = rw whole.bytes at c.requires.room } in
    let p1 = c.widen_front-p1.result.from in
    let n = value_by Short s p1 in
    let r1 = room_rest (λ q. rest_wide s end q) r0 c.widen_front-p1.ensures in
    let forward : units_past s p1 ≤ end = rw c.widen_front-p1.ensures.from whole.forward in
    let p2 = c.integer-p2.result.from in
    let r2 = room_rest (λ q. wide_all (unit_wide s) (unit_past s) n q ++ region (past_all (unit_past s) n q) (end - past_all (unit_past s) n q) s) r1 c.integer-p2.ensures in
    let behind : past_all (unit_past s) n p2 ≡ units_past s p1 = ap (λ (q : ℕ). past_all (unit_past s) n q) c.integer-p2.ensures.from in
    rw c.value_at-count.ensures (room_first (wide_all (unit_wide s) (unit_past s) n p2) (region (past_all (unit_past s) n p2) (end - past_all (unit_past s) n p2) s) r2 (omega (arith, behind, forward)))

pub overflow_sub-end : goal.overflow_sub-end
unfolding definition_wide
overflow_sub-end c =
    let s = c.args.s.now in
    let at = c.args.at in
    let end = c.args.end in
    let b : AreBytes s = λ i. (c.type_inv.s i).fits in
    let whole = definition-wide s b at c.requires.readable.read in
    let r0 : Room s c.args.out.now (record { from = at; to = c.args.place }) (definition_wide s end at) end = record { inside = whole.inside; fits = rw whole.bytes at c.requires.room } in
    let p1 = c.widen_front-p1.result.from in
    let n = value_by Short s p1 in
    let r1 = room_rest (λ q. rest_wide s end q) r0 c.widen_front-p1.ensures in
    let forward : units_past s p1 ≤ end = rw c.widen_front-p1.ensures.from whole.forward in
    let p2 = c.integer-p2.result.from in
    let r2 = room_rest (λ q. wide_all (unit_wide s) (unit_past s) n q ++ region (past_all (unit_past s) n q) (end - past_all (unit_past s) n q) s) r1 c.integer-p2.ensures in
    let behind : past_all (unit_past s) n p2 ≡ units_past s p1 = ap (λ (q : ℕ). past_all (unit_past s) n q) c.integer-p2.ensures.from in
    let m3 : Moved (wide_all (unit_wide s) (unit_past s) n p2) (past_all (unit_past s) n p2) c.integer-p2.result c.integer-p2.new.out c.widen_all-p3.new.out c.widen_all-p3.result = rw c.value_at-count.ensures at c.widen_all-p3.ensures in
    omega (arith, m3.from, behind, forward)

pub keep-p4-requires : goal.keep-p4-requires
unfolding definition_wide
keep-p4-requires c =
    let s = c.args.s.now in
    let at = c.args.at in
    let end = c.args.end in
    let b : AreBytes s = λ i. (c.type_inv.s i).fits in
    let whole = definition-wide s b at c.requires.readable.read in
    let r0 : Room s c.args.out.now (record { from = at; to = c.args.place }) (definition_wide s end at) end = record { inside = whole.inside; fits = rw whole.bytes at c.requires.room } in
    let p1 = c.widen_front-p1.result.from in
    let n = value_by Short s p1 in
    let r1 = room_rest (λ q. rest_wide s end q) r0 c.widen_front-p1.ensures in
    let forward : units_past s p1 ≤ end = rw c.widen_front-p1.ensures.from whole.forward in
    let p2 = c.integer-p2.result.from in
    let r2 = room_rest (λ q. wide_all (unit_wide s) (unit_past s) n q ++ region (past_all (unit_past s) n q) (end - past_all (unit_past s) n q) s) r1 c.integer-p2.ensures in
    let behind : past_all (unit_past s) n p2 ≡ units_past s p1 = ap (λ (q : ℕ). past_all (unit_past s) n q) c.integer-p2.ensures.from in
    let m3 : Moved (wide_all (unit_wide s) (unit_past s) n p2) (past_all (unit_past s) n p2) c.integer-p2.result c.integer-p2.new.out c.widen_all-p3.new.out c.widen_all-p3.result = rw c.value_at-count.ensures at c.widen_all-p3.ensures in
    let r3 = room_rest (λ q. region q (end - q) s) r2 m3 in
    record { inside = omega (arith, m3.from, behind, forward, r3.inside); fits = r3.fits }

pub returns : goal.returns
unfolding definition_wide
returns c =
    let s = c.args.s.now in
    let at = c.args.at in
    let end = c.args.end in
    let b : AreBytes s = λ i. (c.type_inv.s i).fits in
    let whole = definition-wide s b at c.requires.readable.read in
    let r0 : Room s c.args.out.now (record { from = at; to = c.args.place }) (definition_wide s end at) end = record { inside = whole.inside; fits = rw whole.bytes at c.requires.room } in
    let p1 = c.widen_front-p1.result.from in
    let n = value_by Short s p1 in
    let r1 = room_rest (λ q. rest_wide s end q) r0 c.widen_front-p1.ensures in
    let forward : units_past s p1 ≤ end = rw c.widen_front-p1.ensures.from whole.forward in
    let p2 = c.integer-p2.result.from in
    let r2 = room_rest (λ q. wide_all (unit_wide s) (unit_past s) n q ++ region (past_all (unit_past s) n q) (end - past_all (unit_past s) n q) s) r1 c.integer-p2.ensures in
    let behind : past_all (unit_past s) n p2 ≡ units_past s p1 = ap (λ (q : ℕ). past_all (unit_past s) n q) c.integer-p2.ensures.from in
    let m3 : Moved (wide_all (unit_wide s) (unit_past s) n p2) (past_all (unit_past s) n p2) c.integer-p2.result c.integer-p2.new.out c.widen_all-p3.new.out c.widen_all-p3.result = rw c.value_at-count.ensures at c.widen_all-p3.ensures in
    let all = moved_then (λ q. rest_wide s end q) (λ q. units_past s q + (end - units_past s q)) c.widen_front-p1.ensures
    (moved_then (λ q. wide_all (unit_wide s) (unit_past s) n q ++ region (past_all (unit_past s) n q) (end - past_all (unit_past s) n q) s) (λ q. past_all (unit_past s) n q + (end - past_all (unit_past s) n q)) c.integer-p2.ensures
    (moved_then (λ q. region q (end - q) s) (λ q. q + (end - q)) m3 c.keep-p4.ensures r2.fits) r1.fits) r0.fits in
    encoded c.requires (definition_wide s end at) whole.bytes all.bytes all.to
