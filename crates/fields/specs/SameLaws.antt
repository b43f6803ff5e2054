-- Laws of names that are compared.
use Rattle.std.specs.Prelude.{ℕ, zero, suc, ◌+◌, ◌-◌, ◌≤◌, ◌<◌, Bool, true, false, ◌≡◌, refl, List, [], ◌∷◌, length, take, drop, get_or, eqb}
use Rattle.std.proofs.Common.{sym, ap, ap₂, ◌∙◌, add-one, arith, eq-eqb, ne_eqb, length-drop, drop_of_length-le, drop-cons, drop-drop}
use Rattle.words.specs.Choice.{both}
use Rattle.format.specs.Reader.{same_name}
use Rattle.words.specs.ChoiceLaws.{both_assoc}

both_no : (a b : Bool) → b ≡ false → both a b ≡ false
both_no true b h = h
both_no false b h = refl

-- names of two lengths differ
pub same_lengths : (a b : List ℕ) → (length a ≡ length b → ⊥) → same_name a b ≡ false
unfolding same_name
same_lengths [] [] h = absurd (h refl)
same_lengths [] (y ∷ b) h = refl
same_lengths (x ∷ a) [] h = refl
same_lengths (x ∷ a) (y ∷ b) h = both_no (eqb x y) (same_name a b) (same_lengths a b (λ e. h (ap suc e)))

-- names that differ in a byte differ
pub same_differs : (a b : List ℕ) (i : ℕ) → (get_or a i 0 ≡ get_or b i 0 → ⊥) → same_name a b ≡ false
unfolding same_name
same_differs [] [] i h = absurd (h refl)
same_differs [] (y ∷ b) i h = refl
same_differs (x ∷ a) [] i h = refl
same_differs (x ∷ a) (y ∷ b) zero h = rw (ne_eqb x y h)
same_differs (x ∷ a) (y ∷ b) (suc i) h = both_no (eqb x y) (same_name a b) (same_differs a b i h)

-- one byte more before those that are the same
pub same_before : (a b : List ℕ) (i : ℕ) → i < length a → i < length b → get_or a i 0 ≡ get_or b i 0
    → same_name (drop (i + 1) a) (drop (i + 1) b) ≡ true → same_name (drop i a) (drop i b) ≡ true
unfolding same_name
same_before a b i h l e rest =
    rw (drop-cons a i 0 h, drop-cons b i 0 l, eq-eqb (get_or a i 0) (get_or b i 0) e) (rw add-one at rest)

-- and none
pub same_end : (a b : List ℕ) (i : ℕ) → length a ≤ i → length b ≤ i → same_name (drop i a) (drop i b) ≡ true
unfolding same_name
same_end a b i h l = rw (drop_of_length-le a h, drop_of_length-le b l)

-- the bytes from a place on: the first of them, and the rest
pub same_turn : (a b : List ℕ) (i : ℕ) → i < length a → i < length b
    → same_name (drop i a) (drop i b) ≡ both (eqb (get_or a i 0) (get_or b i 0)) (same_name (drop (i + 1) a) (drop (i + 1) b))
unfolding same_name
same_turn a b i h l = rw (add-one, drop-cons a i 0 h, drop-cons b i 0 l)

-- the first k bytes, and the rest
same_split : (k : ℕ) (a b : List ℕ) → k ≤ length a → k ≤ length b → same_name a b ≡ both (same_name (take k a) (take k b)) (same_name (drop k a) (drop k b))
unfolding same_name
same_split zero a b h l = refl
same_split (suc k) [] b h l = absurd (omega arith)
same_split (suc k) (x ∷ a) [] h l = absurd (omega arith)
same_split (suc k) (x ∷ a) (y ∷ b) h l =
    ap (λ (t : Bool). both (eqb x y) t) (same_split k a b (omega arith) (omega arith))
    ∙ both_assoc (eqb x y) (same_name (take k a) (take k b)) (same_name (drop k a) (drop k b))

-- names that are the same from a place on: what stands before it decides
module _ (a b : List ℕ) (i : ℕ) (h : i ≤ length a) (l : i ≤ length b) where
  pub same_front : same_name (drop i a) (drop i b) ≡ true → same_name (take i a) (take i b) ≡ same_name a b
  same_front rest = sym (same_split i a b h l ∙ ap (λ (t : Bool). both (same_name (take i a) (take i b)) t) rest ∙ all (same_name (take i a) (take i b)))
    where
      all : (t : Bool) → both t true ≡ t
      all true = refl
      all false = refl

  -- and where a part from it on differs, they do
  module _ (end : ℕ) (order : i ≤ end) (c : end ≤ length a) (d : end ≤ length b) where
    abbrev k : ℕ
    k = end - i

    part : same_name (drop i a) (drop i b) ≡ both (same_name (take k (drop i a)) (take k (drop i b))) (same_name (drop end a) (drop end b))
    part =
        let on : i + k ≡ end = omega arith in
        same_split k (drop i a) (drop i b) (simp length-drop (omega arith)) (simp length-drop (omega arith))
        ∙ ap (λ (t : Bool). both (same_name (take k (drop i a)) (take k (drop i b))) t)
        (ap₂ same_name (drop-drop k i a ∙ ap (λ (j : ℕ). drop j a) on) (drop-drop k i b ∙ ap (λ (j : ℕ). drop j b) on))

    pub part_differs : same_name (take k (drop i a)) (take k (drop i b)) ≡ false → same_name a b ≡ false
    part_differs e =
        same_split i a b h l
        ∙ both_no (same_name (take i a) (take i b)) (same_name (drop i a) (drop i b)) (part ∙ ap (λ (t : Bool). both t (same_name (drop end a) (drop end b))) e)

    pub part_same : same_name (take k (drop i a)) (take k (drop i b)) ≡ true → same_name (drop end a) (drop end b) ≡ true → same_name (drop i a) (drop i b) ≡ true
    part_same e rest = part ∙ ap₂ both e rest
