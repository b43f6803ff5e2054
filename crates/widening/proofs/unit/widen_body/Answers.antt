use Rattle.words.specs.Parts.{region}
use Rattle.widening.specs.Pieces.{input_wide, input_past, body_wide, body_past, input_onward}
use Rattle.widening.specs.Walk.{wide_all, past_all, past_up}
use Rattle.widening.specs.Moved.{room_first, room-last, moved_then}
use Prim.Native.Nat.{◌+◌}
use mathlib.Core.List.{◌++◌}
use native.Mathlib.Omega.{arith}
use Rattle.widening.proofs.unit.widen_body.Goals as goal

pub keep-p1-requires : goal.keep-p1-requires
unfolding body_wide body_past
keep-p1-requires c =
    let a = c.args in
    let s = a.s.now in
    let at = a.at.from in
    let n = a.inputs in
    room_first (region at 2 s) (wide_all (input_wide s) input_past n (at + 2) ++ region (past_all input_past n (at + 2)) a.outputs s) c.requires (omega (arith, past_up input_past input_onward n (at + 2)))

pub widen_all-p2-requires : goal.widen_all-p2-requires
unfolding body_wide body_past
widen_all-p2-requires c =
    let a = c.args in
    let s = a.s.now in
    let n = a.inputs in
    let m1 = c.keep-p1.ensures in
    let p = c.keep-p1.result.from in
    let rest = room-last (λ p. wide_all (input_wide s) input_past n p ++ region (past_all input_past n p) a.outputs s) (λ p. past_all input_past n p + a.outputs) c.requires m1 in
    room_first (wide_all (input_wide s) input_past n p) (region (past_all input_past n p) a.outputs s) rest (omega arith)

pub keep-requires : goal.keep-requires
unfolding body_wide body_past
keep-requires c =
    let a = c.args in
    let s = a.s.now in
    let n = a.inputs in
    let rest = room-last (λ p. wide_all (input_wide s) input_past n p ++ region (past_all input_past n p) a.outputs s) (λ p. past_all input_past n p + a.outputs) c.requires c.keep-p1.ensures in
    room-last (λ p. region p a.outputs s) (λ p. p + a.outputs) rest c.widen_all-p2.ensures

pub returns : goal.returns
unfolding body_wide body_past
returns c =
    let a = c.args in
    let s = a.s.now in
    let n = a.inputs in
    let rest = room-last (λ p. wide_all (input_wide s) input_past n p ++ region (past_all input_past n p) a.outputs s) (λ p. past_all input_past n p + a.outputs) c.requires c.keep-p1.ensures in
    let last = c.keep.ensures in
    moved_then (λ p. wide_all (input_wide s) input_past n p ++ region (past_all input_past n p) a.outputs s) (λ p. past_all input_past n p + a.outputs) c.keep-p1.ensures
    (moved_then (λ p. region p a.outputs s) (λ p. p + a.outputs) c.widen_all-p2.ensures last rest.fits) c.requires.fits
