use Prim.Native.Nat.{ℕ, ◌+◌, ◌*◌}
use mathlib.Core.Path.{◌≡◌, ap₂, subst, ◌∙◌}
use lib.ListN.{get_or}
use Rattle.values.specs.Controls.{ControlValue, control_at, seen}
use Rattle.model.specs.Layout.{controls_in}
use Rattle.controls.specs.Asked.{control_in}
use Rattle.treequery.specs.Shown.{Shown}
use Rattle.treequery.proofs.row.value_at.Goals as goal

pub returns : goal.returns
returns c =
    let a = c.args in
    let cs = controls_in a.words.now in
    let control : seen c.from_words.result ≡ control_in cs a.row a.index =
    c.from_words.ensures.value
    ∙ ap₂ (λ (x y : ℕ). control_at (get_or cs (64 * x + 2 * y) 0) (get_or cs (64 * x + 2 * y + 1) 0)) c.wide.ensures c.wide-2.ensures in
    subst (λ (v : ControlValue). Shown v c.shown_piece.result) control c.shown_piece.ensures
