use Prim.Native.Nat.{ℕ, ◌+◌, ◌*◌}
use mathlib.Core.Path.{◌≡◌, ap, ◌∙◌}
use native.Mathlib.Omega.{arith}
use lib.ListN.{get_or}
use Rattle.values.specs.Controls.{control_at, shown_by}
use Rattle.model.specs.Layout.{controls_in, buses_in}
use Rattle.controls.proofs.asked.read_control.Goals as goal

pub returns : goal.returns
returns c =
    let a = c.args in
    let ws = a.words.now in
    let place : 64 * c.wide.result + 2 * c.wide-2.result ≡ 64 * a.row + 2 * a.index = omega arith in
    c.read_at.ensures ∙ ap (λ (k : ℕ). shown_by (buses_in ws) (control_at (get_or (controls_in ws) k 0) (get_or (controls_in ws) (k + 1) 0))) place
