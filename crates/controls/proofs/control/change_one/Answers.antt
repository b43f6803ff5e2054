-- `controls::control::change_one` meets its contract: both words of a control that is set, and of one that is mapped the second, since its own
-- float is the word that was read.
use Prim.Native.Nat.{ℕ, ◌+◌}
use mathlib.Core.Path.{◌≡◌, ap, ap₂, ◌∙◌}
use native.Mathlib.Omega.{arith}
use lib.ListN.{get_or, set, length-set}
use Rattle.values.specs.Controls.{ControlValue, control_at, mapping_word, seen}
use Rattle.controls.specs.Change.{change_of, set-two, set_second}
use Rattle.controls.proofs.control.change_one.Goals as goal

pub bounds-controls-at-in-Set-2 : goal.bounds-controls-at-in-Set-2
bounds-controls-at-in-Set-2 c = simp length-set (omega arith)

pub returns-in-Set : goal.returns-in-Set
returns-in-Set c =
    let a = c.args in
    let cs = a.controls.now in
    let v : ControlValue = control_at (get_or cs a.at 0) (get_or cs (a.at + 1) 0) in
    let after : seen c.set-after.result ≡ change_of a.change v = rw c.in-Set.is c.set-after.ensures.value in
    let own : c.own_word-own.result ≡ (change_of a.change v).own = c.own_word-own.ensures ∙ ap (λ (x : ControlValue). x.own) after in
    let word : c.mapping_word-word.result ≡ mapping_word (change_of a.change v).mapping =
    c.mapping_word-word.ensures ∙ ap (λ (x : ControlValue). mapping_word x.mapping) after in
    ap₂ (λ (x y : ℕ). set (set cs a.at x) (a.at + 1) y) own word
    ∙ set-two cs a.at (change_of a.change v).own (mapping_word (change_of a.change v).mapping) (omega arith)

pub returns-in-Map : goal.returns-in-Map
returns-in-Map c =
    let a = c.args in
    let cs = a.controls.now in
    let word : c.mapping_word-word-in-Map.result ≡ mapping_word c.in-Map.mapping =
    c.mapping_word-word-in-Map.ensures ∙ ap (λ (x : ControlValue). mapping_word x.mapping) c.map_to-after.ensures.value in
    rw c.in-Map.is
    (ap (λ (y : ℕ). set cs (a.at + 1) y) word ∙ set_second cs a.at (mapping_word c.in-Map.mapping) (omega arith))
