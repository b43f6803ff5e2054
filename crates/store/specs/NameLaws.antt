-- Laws of names that are the same.
use Rattle.std.specs.Prelude.{ℕ, Bool, true, false, ◌≡◌, refl, List, [], ◌∷◌, eqb}
use Rattle.std.proofs.Common.{sym, ap, ap₂, ◌∙◌, eq-eqb, eqb-true}
use Rattle.words.specs.ChoiceLaws.{both_true}
use Rattle.format.specs.Reader.{same_name}

pub same_equal : (a b : List ℕ) → same_name a b ≡ true → a ≡ b
unfolding same_name
same_equal [] [] h = refl
same_equal [] (y ∷ b) h = cc
same_equal (x ∷ a) [] h = cc
same_equal (x ∷ a) (y ∷ b) h =
    let s = both_true (eqb x y) _ h in
    ap₂ (λ (z : ℕ) (l : List ℕ). z ∷ l) (eqb-true x y s.0) (same_equal a b s.1)

pub same_self : (l : List ℕ) → same_name l l ≡ true
unfolding same_name
same_self [] = refl
same_self (x ∷ l) = rw (eq-eqb x x refl) (same_self l)

pub same_sym : (a b : List ℕ) → same_name a b ≡ same_name b a
same_sym a b = go (same_name a b) (same_name b a) refl refl
  where
    go : (p q : Bool) → same_name a b ≡ p → same_name b a ≡ q → p ≡ q
    go true true h g = refl
    go true false h g = sym (same_self b) ∙ ap (λ (l : List ℕ). same_name b l) (sym (same_equal a b h)) ∙ g
    go false true h g = sym h ∙ ap (λ (l : List ℕ). same_name a l) (same_equal b a g) ∙ same_self a
    go false false h g = refl
