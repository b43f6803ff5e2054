-- The order kept against the one worked out afresh.
use Rattle.std.specs.Prelude.{ℕ, suc, ◌-◌, ◌≤◌, ◌<◌, Bool, true, false, ◌≡◌, refl, take, leb, eqb}
use Rattle.std.specs.Cmp.Lexicographic.{pointwise}
use Rattle.std.proofs.Common.{◌&&◌, sym, ◌∙◌, arith, length-take-le, take_at, le-leb, eq-eqb, eqb-true}
use Rattle.std.proofs.Math.Path.{ap, ap₂}
use mathlib.Core.List.{List, [], ◌∷◌}
use Rattle.std.proofs.Math.ListN.{length}
use Rattle.std.proofs.lemmas.Bool.{lt-leb}
use Rattle.words.specs.Choice.{both}
use Rattle.words.specs.ChoiceLaws.{both_true}
use Rattle.format.specs.Reader.{same_name}
use Rattle.nodes.specs.declared.Node.{Node}
use Rattle.nodes.specs.Order.{order}
use Rattle.order.specs.Pad.{zeros, pad_few}
use Rattle.order.specs.Order.{most_order, order_words}

-- the order kept is the one worked out afresh: what lies past its length is not looked at
abbrev pub same_order : List ℕ → ℕ → List Node → Bool
same_order kept many t = both (leb many most_order) (same_name (take many kept) (order t))

pub same_true : (a b : List ℕ) → same_name a b ≡ true → a ≡ b
unfolding same_name
same_true [] [] h = refl
same_true [] (y ∷ b) h = cc
same_true (x ∷ a) [] h = cc
same_true (x ∷ a) (y ∷ b) h =
    let w = both_true (eqb x y) (same_name a b) h in
    ap₂ (λ (z : ℕ) (l : List ℕ). z ∷ l) (eqb-true x y w.0) (same_true a b w.1)

pub same_refl : (a : List ℕ) → same_name a a ≡ true
unfolding same_name
same_refl [] = refl
same_refl (x ∷ a) = rw (eq-eqb x x refl) (same_refl a)

-- lists of two lengths differ
same_length : (a b : List ℕ) → (length a ≡ length b → ⊥) → same_name a b ≡ false
unfolding same_name
same_length [] [] h = absurd (h refl)
same_length [] (y ∷ b) h = refl
same_length (x ∷ a) [] h = refl
same_length (x ∷ a) (y ∷ b) h = rw (same_length a b (λ e. h (ap suc e))) (nothing (eqb x y))
  where
    nothing : (m : Bool) → both m false ≡ false
    nothing true = refl
    nothing false = refl

-- `==` on two runs of numbers
pub same_pointwise : (a b : List ℕ) → pointwise eqb a b ≡ same_name a b
unfolding same_name
same_pointwise [] [] = refl
same_pointwise [] (y ∷ b) = refl
same_pointwise (x ∷ a) [] = refl
same_pointwise (x ∷ a) (y ∷ b) = go (eqb x y) (same_pointwise a b)
  where
    go : (m : Bool) → pointwise eqb a b ≡ same_name a b → (m && pointwise eqb a b) ≡ both m (same_name a b)
    go true e = e
    go false e = refl

-- the test of the order kept, by its length and by its numbers
module _ (kept : List ℕ) (many : ℕ) (t : List Node) where
  pub order_past : most_order < many → same_order kept many t ≡ false
  order_past h = rw (lt-leb many most_order h)

  order_whole : many ≤ most_order → same_order kept many t ≡ same_name (take many kept) (order t)
  order_whole h = rw (le-leb many most_order h)

  pub order_other : many ≤ most_order → many ≤ length kept → (many ≡ length (order t) → ⊥) → same_order kept many t ≡ false
  order_other h long other =
      let size : length (take many kept) ≡ many = length-take-le many kept long in
      order_whole h ∙ same_length (take many kept) (order t) (λ e. other (sym size ∙ e))

  pub order_front : many ≤ most_order → many ≡ length (order t) → (numbers : List ℕ) → numbers ≡ order_words t → same_order kept many t ≡ same_name (take many kept) (take many numbers)
  order_front h e numbers is =
      let front : take many numbers ≡ order t =
      ap (λ (l : List ℕ). take many l) (is ∙ pad_few most_order (order t) (omega arith)) ∙ take_at (order t) (zeros (most_order - length (order t))) many (sym e) in
      order_whole h ∙ ap (λ (l : List ℕ). same_name (take many kept) l) (sym front)
