use Rattle.format.specs.Fields.{value_by}
use Rattle.format.specs.declared.Width.TheVariants.{Short}
use Rattle.words.specs.Parts.{region}
use Rattle.widening.specs.Pieces.{floats_wide, floats_past, integer_wide}
use Rattle.widening.specs.Moved.{room_first, room-last, moved_then}
use Prim.Native.Nat.{◌+◌, ◌*◌}
use native.Mathlib.Omega.{arith}
use Rattle.widening.proofs.fronts.widen_floats.Goals as goal

pub value_at-count-requires : goal.value_at-count-requires
unfolding floats_past
value_at-count-requires c =
    omega (arith, c.requires.inside)

pub integer-next-requires : goal.integer-next-requires
unfolding floats_past floats_wide
integer-next-requires c =
    let s = c.args.s.now in
    let at = c.args.at.from in
    room_first (integer_wide s at) (region (at + 2) (4 * value_by Short s at) s) c.requires (omega arith)

pub keep-requires : goal.keep-requires
unfolding floats_past floats_wide
keep-requires c =
    let s = c.args.s.now in
    let n = value_by Short s c.args.at.from in
    rw (c.value_at-count.ensures)
    (room-last (λ p. region p (4 * n) s) (λ p. p + 4 * n) c.requires c.integer-next.ensures)

pub returns : goal.returns
unfolding floats_past floats_wide
returns c =
    let s = c.args.s.now in
    let n = value_by Short s c.args.at.from in
    moved_then (λ p. region p (4 * n) s) (λ p. p + 4 * n) c.integer-next.ensures
    (rw (c.value_at-count.ensures) at c.keep.ensures) c.requires.fits
