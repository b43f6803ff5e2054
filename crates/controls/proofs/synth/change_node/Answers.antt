use Prim.Native.Nat.{ℕ, min}
use mathlib.Core.Path.{◌≡◌, sym, ap, ap₂, ◌∙◌}
use mathlib.Core.List.{List}
use native.Mathlib.Omega.{arith}
use Rattle.model.specs.Layout.{controls_in, put_controls, record_in}
use Rattle.model.specs.Effects.{change_row}
use Rattle.controls.specs.Change.{change_of}
use Rattle.controls.specs.Synth.{same_controls}
use Rattle.controls.specs.Cover.{reached_none}
use Rattle.controls.proofs.synth.change_node.Goals as goal

pub returns-in_default : goal.returns-in_default
returns-in_default c = rw c.in_default.is (sym (same_controls c.args.words.now))

pub returns-then-many-gt0 : goal.returns-then-many-gt0
returns-then-many-gt0 c =
    let a = c.args in
    let ws = a.words.now in
    let f = change_of a.change in
    let changed : c.change_row.new.controls ≡ change_row f (record_in ws a.place).row c.in-Some.cover.index (min a.count c.in-Some.cover.width) (controls_in ws) =
    c.change_row.ensures ∙ ap₂ (λ (row many : ℕ). change_row f row c.in-Some.cover.index many (controls_in ws)) c.node_row-row.ensures c.min-many.ensures in
    rw c.in-Some.is (ap (λ (l : List ℕ). put_controls l ws) changed)

pub returns-else-many-gt0 : goal.returns-else-many-gt0
returns-else-many-gt0 c =
    let a = c.args in
    let ws = a.words.now in
    let none : min a.count c.in-Some.cover.width ≡ 0 = omega (arith, c.min-many.ensures) in
    rw c.in-Some.is (sym (ap (λ (l : List ℕ). put_controls l ws) (reached_none c.in-Some.cover a.count (change_of a.change) (record_in ws a.place).row (controls_in ws) none) ∙ same_controls ws))
