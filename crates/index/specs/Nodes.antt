-- The index of a list of nodes: its rule, the index worked out afresh, and numbers that differ.
use Prim.Native.Nat.{ℕ, zero, suc, ◌<◌}
use Rattle.std.specs.Prelude.{Bool, ◌≡◌}
use Rattle.std.proofs.Math.Bool.{true, false}
use Rattle.std.proofs.Math.Path.{refl, sym, ap}
use Rattle.std.proofs.Common.{◌∙◌, arith, eqb-true, eq-eqb}
use mathlib.Core.List.{List, [], ◌∷◌}
use Rattle.std.proofs.Math.ListN.{length}
use Rattle.std.proofs.Math.Dec.{eqb}
use Rattle.words.specs.Choice.{pick}
use Rattle.words.specs.ChoiceLaws.{both_true}
use Rattle.nodes.specs.declared.Node.{Node}
use Rattle.nodes.specs.Place.{lives, place}
use Rattle.nodes.specs.Formed.{apart}
use Rattle.nodes.specs.Table.{numbers}
use Rattle.index.specs.Index.{number_at, rises, indexed, index_of}
use Rattle.index.specs.Rising.{Rising, rising, rising_rises}
use Rattle.index.specs.Afresh.{Distinct, settled_by, afresh_length, afresh_rising, all_differ}

-- a number at a place lives; one at no place doesn't, and its place is the count
pub lives_at : (n : ℕ) (l : List Node) (p : ℕ) → p < length l → number_at (numbers l) p ≡ n → lives n l ≡ true
unfolding lives numbers
lives_at n [] p h e = absurd (omega arith)
lives_at n (r ∷ l) zero h e = rw (eq-eqb r.number n e)
lives_at n (r ∷ l) (suc p) h e = go (lives_at n l p (omega arith) e) (eqb r.number n)
  where
    go : lives n l ≡ true → (b : Bool) → pick b true (lives n l) ≡ true
    go ih true = refl
    go ih false = ih

module _ (n : ℕ) where
  pub lives_none : (l : List Node) → ((p : ℕ) → p < length l → number_at (numbers l) p ≡ n → ⊥) → (lives n l ≡ false) × (place n l ≡ length l)
  unfolding lives place numbers
  lives_none [] h = (refl, refl)
  lives_none (r ∷ l) h = go (lives_none l (λ p k e. h (suc p) (omega arith) e)) (eqb r.number n) refl
    where
      go : (lives n l ≡ false) × (place n l ≡ length l) → (b : Bool) → eqb r.number n ≡ b → (pick b true (lives n l) ≡ false) × (pick b 0 (suc (place n l)) ≡ suc (length l))
      go ih true e = absurd (h 0 (omega arith) (eqb-true r.number n e))
      go ih false e = (ih.0, ap suc ih.1)

  -- where numbers differ, a number's place is the one where it stands
  pub place_at : (l : List Node) → Distinct (numbers l) (length l) → (p : ℕ) → p < length l → number_at (numbers l) p ≡ n → place n l ≡ p
  unfolding place numbers
  place_at [] d p h e = absurd (omega arith)
  place_at (r ∷ l) d zero h e = rw (eq-eqb r.number n e)
  place_at (r ∷ l) d (suc p) h e = go (place_at l (λ a b x y. d (suc a) (suc b) (omega arith) (omega arith)) p (omega arith) e) (eqb r.number n) refl
    where
      go : place n l ≡ p → (b : Bool) → eqb r.number n ≡ b → pick b 0 (suc (place n l)) ≡ suc p
      go ih true t = absurd (d 0 (suc p) (omega arith) h (eqb-true r.number n t ∙ sym e))
      go ih false t = ap suc ih

-- the rule that no number stands twice, by places
pub distinct_apart : (t : List Node) → Distinct (numbers t) (length t) → apart t ≡ true
unfolding apart numbers
distinct_apart [] d = refl
distinct_apart (r ∷ l) d =
    rw (lives_none r.number l (λ p k e. d 0 (suc p) (omega arith) (omega arith) (sym e))).0
    (distinct_apart l (λ a b x y. d (suc a) (suc b) (omega arith) (omega arith)))

pub apart_distinct : (t : List Node) → apart t ≡ true → Distinct (numbers t) (length t)
unfolding apart numbers
apart_distinct [] a p q h k e = omega arith
apart_distinct (r ∷ l) a p zero h k e = omega arith
apart_distinct (r ∷ l) a zero (suc q) h k e =
    let live = lives_at r.number l q (omega arith) (sym e) in
    let z : ◌≡◌ {A = Bool} false true = rw live at a in
    let w : ◌≡◌ {A = ℕ} 0 1 = cc in
    omega arith
apart_distinct (r ∷ l) a (suc p) (suc q) h k e = go (lives r.number l) a (apart_distinct l)
  where
    go : (b : Bool) → pick b false (apart l) ≡ true → (apart l ≡ true → Distinct (numbers l) (length l)) → ⊥
    go true x ih = let w : ◌≡◌ {A = ℕ} 0 1 = cc in omega arith
    go false x ih = ih x p q (omega arith) (omega arith) e

module _ (ix : List ℕ) (t : List Node) where
  -- the rule, by its two parts
  pub indexed_parts : indexed ix t ≡ true → (length ix ≡ length t) × Rising (numbers t) (length t) 0 ix
  indexed_parts h =
      let b = both_true (eqb (length ix) (length t)) (rises (numbers t) (length t) 0 ix) h in
      (eqb-true (length ix) (length t) b.0, rising (length t) 0 ix b.1)

  pub parts_indexed : length ix ≡ length t → Rising (numbers t) (length t) 0 ix → indexed ix t ≡ true
  parts_indexed e r = rw (eq-eqb (length ix) (length t) e) (rising_rises r)

  -- the rule says that the numbers differ
  pub indexed-apart : indexed ix t ≡ true → apart t ≡ true
  indexed-apart h = let b = indexed_parts h in distinct_apart t (all_differ (numbers t) (length t) b.1 b.0)

  -- and that the index is the one worked out afresh
  pub indexed_afresh : indexed ix t ≡ true → ix ≡ index_of t
  indexed_afresh h = let b = indexed_parts h in settled_by (numbers t) (length t) b.1 b.0

  -- where the numbers differ, the index worked out afresh keeps the rule
  pub afresh_indexed : apart t ≡ true → ix ≡ index_of t → indexed ix t ≡ true
  afresh_indexed a e =
      parts_indexed (ap (λ (l : List ℕ). length l) e ∙ afresh_length (numbers t) (length t))
      (rw e (afresh_rising (numbers t) (length t) (apart_distinct t a)))
