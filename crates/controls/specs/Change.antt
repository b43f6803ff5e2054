-- A change of controls, and a row of controls changed one by one.
use Rattle.std.specs.Prelude.{ℕ, suc, ◌+◌, ◌≤◌, ◌≡◌, List, [], ◌∷◌, ◌++◌, length, take, drop, get_or, set}
use Rattle.std.proofs.Common.{sym, ap, ap₂, ◌∙◌, append_assoc, arith, add-zero, add-one, length-append, length-take, length-drop, take-append-drop, take_at, drop_at, drop-drop, get_or-drop}
use Rattle.std.proofs.lemmas.List.Edits.{sets-eq}
use Rattle.std.proofs.lemmas.List.{set-get_or}
use Rattle.words.specs.Parts.{over}
use Rattle.values.specs.Controls.{ControlValue, control_at, set_to, map_to}
use Rattle.model.specs.Effects.{control_words, change_words}
use Rattle.controls.specs.declared.control.Change.{Change}
use Rattle.controls.specs.declared.control.Change.TheVariants.{Set, Map}

-- "`/n_set`, `/n_fill` store the own float and unmap"; `/n_map` maps or unmaps
abbrev pub change_of : Change → ControlValue → ControlValue
change_of (Set pattern) v = set_to pattern v
change_of (Map mapping) v = map_to mapping v

-- the words from a place on, n controls of them changed: a row's change is this from the row's first control on
abbrev pub change_from_place : (ControlValue → ControlValue) → ℕ → ℕ → List ℕ → List ℕ
change_from_place f at n cs = take at cs ++ change_words f n (drop at cs)

-- the control in the two words at a place, changed
abbrev pub changed_at : (ControlValue → ControlValue) → ℕ → List ℕ → List ℕ
changed_at f at cs = over at (control_words (f (control_at (get_or cs at 0) (get_or cs (at + 1) 0)))) cs

-- the first control changed, the rest is changed from the next one on
pub change_turn : (f : ControlValue → ControlValue) (cs : List ℕ) (k n : ℕ) → k + 2 ≤ length cs
    → change_from_place f (k + 2) n (changed_at f k cs) ≡ change_from_place f k (suc n) cs
unfolding change_words
change_turn f cs k n h =
    let vs = control_words (f (control_at (get_or cs k 0) (get_or cs (k + 1) 0))) in
    let size : length (take k cs ++ vs) ≡ k + 2 = simp (length-append, length-take) (omega arith) in
    ap₂ (λ (a b : List ℕ). a ++ change_words f n b)
    (take_at (take k cs ++ vs) (drop (k + 2) cs) (k + 2) size)
    (drop_at (take k cs ++ vs) (drop (k + 2) cs) (k + 2) size)
    ∙ append_assoc (take k cs) vs (change_words f n (drop (k + 2) cs))
    ∙ simp (get_or-drop, drop-drop, add-zero)

pub changed-length : (f : ControlValue → ControlValue) (cs : List ℕ) (k : ℕ) → k + 2 ≤ length cs → length (changed_at f k cs) ≡ length cs
changed-length f cs k h = simp (length-append, length-take, length-drop) (omega arith)

-- two words stored one after the other
pub set-two : (cs : List ℕ) (k x y : ℕ) → k + 2 ≤ length cs → set (set cs k x) (k + 1) y ≡ over k (x ∷ (y ∷ [])) cs
set-two cs k x y h = rw add-one (sets-eq (x ∷ (y ∷ [])) cs k h)

-- the second alone, where the first stays as it was
pub set_second : (cs : List ℕ) (k y : ℕ) → k + 2 ≤ length cs → set cs (k + 1) y ≡ over k (get_or cs k 0 ∷ (y ∷ [])) cs
set_second cs k y h = ap (λ (l : List ℕ). set l (k + 1) y) (sym (set-get_or cs k 0)) ∙ set-two cs k (get_or cs k 0) y h

-- no control changed
pub change_none : (f : ControlValue → ControlValue) (cs : List ℕ) (k : ℕ) → change_from_place f k 0 cs ≡ cs
unfolding change_words
change_none f cs k = take-append-drop k cs
