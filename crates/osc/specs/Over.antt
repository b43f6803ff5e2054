-- Bytes over a run from a place on, and pieces written one behind the other.
use Rattle.std.specs.Prelude.{ℕ, suc, ◌+◌, ◌≤◌, ◌<◌, ◌≡◌, refl, List, [], ◌∷◌, ◌++◌, length, take, drop, set}
use Rattle.std.proofs.Common.{sym, ap, ap₂, ◌∙◌, append_assoc, arith, length-append, length-take, length-drop, take_at, drop_at, drop-drop, length-take-le}
use Rattle.std.proofs.lemmas.List.Edits.{sets-eq}
use Rattle.osc.specs.Message.{decimal}
use Rattle.words.specs.Parts.{over}

pub over_length : (at : ℕ) (vs us : List ℕ) → at + length vs ≤ length us → length (over at vs us) ≡ length us
over_length at vs us h = simp (length-append, length-take, length-drop) (omega arith)

-- a piece behind another is one piece
pub over_over : (at next : ℕ) (a b us : List ℕ) → next ≡ at + length a → next + length b ≤ length us → over next b (over at a us) ≡ over at (a ++ b) us
over_over at next a b us e h =
    let front : length (take at us ++ a) ≡ next = simp length-append (rw (length-take-le at us (omega arith)) (sym e)) in
    let ends : at + length (a ++ b) ≡ next + length b = rw length-append (omega arith) in
    let shift : next + length b ≡ next + length b = refl in
    let back : drop (next + length b) (over at a us) ≡ drop (next + length b) us =
    sym (drop-drop (length b) next (over at a us))
    ∙ ap (λ (l : List ℕ). drop (length b) l) (drop_at (take at us ++ a) (drop (at + length a) us) next front ∙ ap (λ (k : ℕ). drop k us) (sym e))
    ∙ drop-drop (length b) next us in
    ap₂ (λ (l m : List ℕ). l ++ b ++ m) (take_at (take at us ++ a) (drop (at + length a) us) next front) back
    ∙ ap (λ (l : List ℕ). l ++ drop (next + length b) us) (append_assoc (take at us) a b)
    ∙ ap (λ (k : ℕ). take at us ++ (a ++ b) ++ drop k us) (sym ends)

-- a whole message from the first byte on
pub over_first : (vs us : List ℕ) → over 0 vs us ≡ vs ++ drop (length vs) us
over_first vs us = let z : 0 + length vs ≡ length vs = omega arith in ap (λ (k : ℕ). vs ++ drop k us) z

-- bytes stored one behind the other
module _ (us : List ℕ) (at : ℕ) where
  one_on : at + 1 ≡ suc at
  one_on = omega arith

  two_on : at + 2 ≡ suc (suc at)
  two_on = omega arith

  pub stores_3 : (a b c : ℕ) → at + 3 ≤ length us → set (set (set us at a) (at + 1) b) (at + 2) c ≡ over at (a ∷ (b ∷ (c ∷ []))) us
  stores_3 a b c h = rw (one_on, two_on) (sets-eq (a ∷ (b ∷ (c ∷ []))) us at h)

-- a number that has decimal digits here, and room for them
pub record Decimal (n at : ℕ) (us : List ℕ) : Type 0 where
  pub small : n < 10000
  pub room : at + length (decimal n) ≤ length us
