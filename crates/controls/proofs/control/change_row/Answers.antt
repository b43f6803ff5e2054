use Prim.Native.Nat.{ℕ, suc, ◌+◌, ◌*◌, ◌-◌, ◌≤◌}
use mathlib.Core.Path.{◌≡◌, refl, sym, ap, ap₂, ◌∙◌}
use native.Mathlib.Omega.{arith}
use lib.ListN.{length}
use Rattle.controls.specs.Change.{change_of, change_from_place, changed_at, change_turn, changed-length, change_none}
use Rattle.controls.proofs.control.change_row.Goals as goal

pub wide-requires : goal.wide-requires
wide-requires c = tt

pub wide-requires-2 : goal.wide-requires-2
wide-requires-2 c = tt

pub loop-init : goal.loop-init
loop-init c =
    let a = c.args in
    let place : 64 * c.wide.result + 2 * c.wide-2.result ≡ 64 * a.row + 2 * a.start = omega arith in
    let all : a.many - 0 ≡ a.many = omega arith in (
      omega arith,
      refl,
      ap₂ (λ (k n : ℕ). change_from_place (change_of a.change) k n a.controls.now) place all,
    )

pub loop-preserved : goal.loop-preserved
loop-preserved c =
    let a = c.args in
    let m = a.many in
    let f = change_of a.change in
    let fact : c.change_one.new.controls ≡ changed_at f c.loop.at c.loop.controls = c.change_one.ensures in
    let room : c.loop.at + 2 ≤ length c.loop.controls = omega arith in
    let more : m - c.loop.counter ≡ suc (m - (c.loop.counter + 1)) = omega arith in (
      omega arith,
      ap length fact ∙ changed-length f c.loop.controls c.loop.at room ∙ c.loop.invariant.1,
      ap (change_from_place f (c.loop.at + 2) (m - (c.loop.counter + 1))) fact
          ∙ change_turn f c.loop.controls c.loop.at (m - (c.loop.counter + 1)) room
          ∙ ap (λ (n : ℕ). change_from_place f c.loop.at n c.loop.controls) (sym more)
          ∙ c.loop.invariant.2,
    )

pub returns : goal.returns
returns c =
    let a = c.args in
    let done : a.many - c.loop.counter ≡ 0 = omega arith in
    sym (change_none (change_of a.change) c.loop.controls c.loop.at)
    ∙ ap (λ (n : ℕ). change_from_place (change_of a.change) c.loop.at n c.loop.controls) (sym done)
    ∙ c.loop.invariant.2
