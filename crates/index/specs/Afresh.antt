-- The index is settled by the nodes: entries that keep its rule are the index worked out afresh.
use Prim.Native.Nat.{ℕ, zero, suc, ◌≤◌, ◌<◌}
use Rattle.std.specs.Prelude.{Bool, ◌≡◌, get_or}
use Rattle.std.proofs.Math.Bool.{true, false}
use Rattle.std.proofs.Math.Path.{refl, sym, ap, subst}
use Rattle.std.proofs.Common.{◌∙◌}
use mathlib.Core.List.{List, [], ◌∷◌}
use native.Mathlib.Omega.{arith}
use borrow.Author.Tests.{ltb-true, ltb-false, eqb-true, eqb-false, lt-ltb, le-ltb}
use Rattle.std.proofs.Math.ListN.{length}
use Rattle.std.proofs.Math.Dec.{ltb, eqb}
use Rattle.words.specs.Choice.{pick}
use Rattle.index.specs.Index.{number_at, put_in, by_number}
use Rattle.index.specs.Rising.{Rising, done, next, rising_from, rising_below, entry, higher}

-- the entries without the first that is m
unfoldable pub without : ℕ → List ℕ → List ℕ
without m [] = []
without m (p ∷ ix) = pick (eqb p m) ix (p ∷ without m ix)

pub without-length : (m : ℕ) (ix : List ℕ) → (length ix ≤ suc (length (without m ix))) × (length (without m ix) ≤ length ix)
unfolding without
without-length m [] = (omega arith, omega arith)
without-length m (p ∷ ix) = go (without-length m ix) (eqb p m)
  where
    go : (length ix ≤ suc (length (without m ix))) × (length (without m ix) ≤ length ix) → (b : Bool)
        → (suc (length ix) ≤ suc (length (pick b ix (p ∷ without m ix)))) × (length (pick b ix (p ∷ without m ix)) ≤ suc (length ix))
    go ih true = (omega arith, omega arith)
    go ih false = (omega arith, omega arith)

module _ (ks : List ℕ) where
  -- where all numbers are higher than the one at n, no entry is n
  lower : {n least : ℕ} {ix : List ℕ} → number_at ks n < least → Rising ks (suc n) least ix → Rising ks n least ix
  lower h done = done
  lower {n = n} h (next {p = p} a b r) = next (go (eqb p n) refl) b (lower (omega arith) r)
    where
      go : (t : Bool) → eqb p n ≡ t → p < n
      go true e =
          let same : number_at ks p ≡ number_at ks n = ap (λ (k : ℕ). number_at ks k) (eqb-true p n e) in
          absurd (omega arith)
      go false e = let other = eqb-false p n e in omega arith

  -- the highest place taken out
  fewer : {n least : ℕ} {ix : List ℕ} → Rising ks (suc n) least ix → Rising ks n least (without n ix)
  unfolding without
  fewer done = done
  fewer {n = n} {least = least} (next {p = p} {ix = ix} a b r) = go (fewer r) (eqb p n) refl
    where
      go : Rising ks n (suc (number_at ks p)) (without n ix) → (t : Bool) → eqb p n ≡ t → Rising ks n least (pick t ix (p ∷ without n ix))
      go ih true e =
          let same : number_at ks p ≡ number_at ks n = ap (λ (k : ℕ). number_at ks k) (eqb-true p n e) in
          rising_from least (omega arith) (lower (omega arith) r)
      go ih false e = let other = eqb-false p n e in next {p = p} (omega arith) b ih

  -- there are no more entries than places
  pub many : (n : ℕ) {least : ℕ} {ix : List ℕ} → Rising ks n least ix → length ix ≤ n
  many zero done = omega arith
  many zero (next a b r) = absurd (omega arith)
  many (suc n) {ix = ix} r =
      let ih = many n (fewer r) in
      let w = without-length n ix in
      omega arith

  -- a place that is taken out was among the entries
  taken : {n least : ℕ} {ix : List ℕ} (m : ℕ) → Rising ks n least ix → length (without m ix) < length ix → least ≤ number_at ks m
  unfolding without
  taken m done h = absurd (omega arith)
  taken {least = least} m (next {p = p} {ix = ix} a b r) h = go (taken m r) (eqb p m) refl h
    where
      go : (length (without m ix) < length ix → suc (number_at ks p) ≤ number_at ks m) → (t : Bool) → eqb p m ≡ t → length (pick t ix (p ∷ without m ix)) < suc (length ix)
          → least ≤ number_at ks m
      go ih true e k =
          let same : number_at ks p ≡ number_at ks m = ap (λ (k : ℕ). number_at ks k) (eqb-true p m e) in
          omega arith
      go ih false e k = let more = ih (omega arith) in omega arith

  -- a place whose number is lower than all goes first
  put_first : {n least : ℕ} {ix : List ℕ} (m : ℕ) → number_at ks m < least → Rising ks n least ix → put_in ks m ix ≡ m ∷ ix
  unfolding put_in
  put_first m h done = refl
  put_first m h (next {p = p} a b r) = rw (lt-ltb (number_at ks m) (number_at ks p) (omega arith))

  -- put in again, it stands where it stood
  put_back : {n least : ℕ} {ix : List ℕ} (m : ℕ) → Rising ks n least ix → length (without m ix) < length ix → put_in ks m (without m ix) ≡ ix
  unfolding without put_in
  put_back m done h = absurd (omega arith)
  put_back {n = n} m (next {p = p} {ix = ix} a b r) h = go (put_back m r) (eqb p m) refl h
    where
      go : (length (without m ix) < length ix → put_in ks m (without m ix) ≡ ix) → (t : Bool) → eqb p m ≡ t → length (pick t ix (p ∷ without m ix)) < suc (length ix)
          → put_in ks m (pick t ix (p ∷ without m ix)) ≡ p ∷ ix
      go ih true e k =
          let same = eqb-true p m e in
          subst (λ (q : ℕ). put_in ks q ix ≡ p ∷ ix) same (put_first p (omega arith) r)
      go ih false e k =
          let more = taken m r (omega arith) in
          rw (le-ltb (number_at ks m) (number_at ks p) (omega arith)) (ap (λ (l : List ℕ). p ∷ l) (ih (omega arith)))

  -- as many entries as places, whose numbers rise, are the places by number
  pub settled_by : (n : ℕ) {least : ℕ} {ix : List ℕ} → Rising ks n least ix → length ix ≡ n → ix ≡ by_number ks n
  unfolding by_number
  settled_by zero done e = refl
  settled_by zero (next a b r) e = absurd (omega arith)
  settled_by (suc n) {ix = ix} r e =
      let w = without-length n ix in
      let m = many n (fewer r) in
      sym (put_back n r (omega arith)) ∙ ap (λ (l : List ℕ). put_in ks n l) (settled_by n (fewer r) (omega arith))

  -- the numbers of the first n places differ
  abbrev pub Distinct : ℕ → Type 0
  Distinct n = (p q : ℕ) → p < q → q < n → number_at ks p ≡ number_at ks q → ⊥

  pub put_length : (m : ℕ) (ix : List ℕ) → length (put_in ks m ix) ≡ suc (length ix)
  unfolding put_in
  put_length m [] = refl
  put_length m (q ∷ ix) = go (put_length m ix) (ltb (number_at ks m) (number_at ks q))
    where
      go : length (put_in ks m ix) ≡ suc (length ix) → (t : Bool) → length (pick t (m ∷ (q ∷ ix)) (q ∷ put_in ks m ix)) ≡ suc (suc (length ix))
      go ih true = refl
      go ih false = ap suc ih

  -- a place put in, whose number no entry has
  pub put_rising : {n least : ℕ} {ix : List ℕ} (m : ℕ) → m < n → least ≤ number_at ks m → ((i : ℕ) → i < length ix → number_at ks (get_or ix i 0) ≡ number_at ks m → ⊥) → Rising ks n least ix
      → Rising ks n least (put_in ks m ix)
  unfolding put_in
  put_rising m h l d done = next h l done
  put_rising {n = n} {least = least} m h l d (next {p = p} {ix = ix} a b r) =
      go (λ (more : suc (number_at ks p) ≤ number_at ks m). put_rising m h more (λ i k e. d (suc i) (omega arith) e) r) (ltb (number_at ks m) (number_at ks p)) refl
    where
      go : (suc (number_at ks p) ≤ number_at ks m → Rising ks n (suc (number_at ks p)) (put_in ks m ix)) → (t : Bool) → ltb (number_at ks m) (number_at ks p) ≡ t
          → Rising ks n least (pick t (m ∷ (p ∷ ix)) (p ∷ put_in ks m ix))
      go ih true e = next h l (next a (ltb-true (number_at ks m) (number_at ks p) e) r)
      go ih false e =
          let low = ltb-false (number_at ks m) (number_at ks p) e in
          let other = d 0 (omega arith) in
          next a b (ih (omega arith))

  pub afresh_length : (n : ℕ) → length (by_number ks n) ≡ n
  unfolding by_number
  afresh_length zero = refl
  afresh_length (suc n) = put_length n (by_number ks n) ∙ ap suc (afresh_length n)

  -- the places by number rise, where the numbers differ
  pub afresh_rising : (n : ℕ) → Distinct n → Rising ks n 0 (by_number ks n)
  unfolding by_number
  afresh_rising zero d = done
  afresh_rising (suc n) d =
      let ih = afresh_rising n (λ p q h k. d p q h (omega arith)) in
      put_rising n (omega arith) (omega arith) (λ i k e. d (get_or (by_number ks n) i 0) n (entry ih i k).0 (omega arith) e) (rising_below (suc n) (omega arith) ih)

-- a place stands among entries
pub record Stands (ix : List ℕ) (p : ℕ) : Type 0 where
  pub at : ℕ
  pub inside : at < length ix
  pub is : get_or ix at 0 ≡ p

module _ (ks : List ℕ) where
  pub put-new : (m : ℕ) (ix : List ℕ) → Stands (put_in ks m ix) m
  unfolding put_in
  put-new m [] = record { at = 0; inside = omega arith; is = refl }
  put-new m (q ∷ ix) = go (put-new m ix) (ltb (number_at ks m) (number_at ks q))
    where
      go : Stands (put_in ks m ix) m → (t : Bool) → Stands (pick t (m ∷ (q ∷ ix)) (q ∷ put_in ks m ix)) m
      go ih true = record { at = 0; inside = omega arith; is = refl }
      go ih false = record { at = suc ih.at; inside = omega arith; is = ih.is }

  pub put_kept : (m : ℕ) (ix : List ℕ) (i : ℕ) → i < length ix → Stands (put_in ks m ix) (get_or ix i 0)
  unfolding put_in
  put_kept m [] i h = absurd (omega arith)
  put_kept m (q ∷ ix) zero h = go (ltb (number_at ks m) (number_at ks q))
    where
      go : (t : Bool) → Stands (pick t (m ∷ (q ∷ ix)) (q ∷ put_in ks m ix)) q
      go true = record { at = 1; inside = omega arith; is = refl }
      go false = record { at = 0; inside = omega arith; is = refl }
  put_kept m (q ∷ ix) (suc i) h = go (put_kept m ix i (omega arith)) (ltb (number_at ks m) (number_at ks q))
    where
      go : Stands (put_in ks m ix) (get_or ix i 0) → (t : Bool) → Stands (pick t (m ∷ (q ∷ ix)) (q ∷ put_in ks m ix)) (get_or ix i 0)
      go ih true = record { at = suc (suc i); inside = omega arith; is = refl }
      go ih false = record { at = suc ih.at; inside = omega arith; is = ih.is }

  -- each place is among the places by number
  each : (n p : ℕ) → p < n → Stands (by_number ks n) p
  unfolding by_number
  each zero p h = absurd (omega arith)
  each (suc n) p h = go (eqb p n) refl (each n p)
    where
      go : (t : Bool) → eqb p n ≡ t → (p < n → Stands (by_number ks n) p) → Stands (put_in ks n (by_number ks n)) p
      go true e ih = rw (eqb-true p n e) (put-new n (by_number ks n))
      go false e ih =
          let other = eqb-false p n e in
          let s = ih (omega arith) in
          subst (λ (q : ℕ). Stands (put_in ks n (by_number ks n)) q) s.is (put_kept n (by_number ks n) s.at s.inside)

  -- as many entries as places, whose numbers rise: each place stands among them, and the numbers differ
  pub all_stand : (n : ℕ) {least : ℕ} {ix : List ℕ} → Rising ks n least ix → length ix ≡ n → (p : ℕ) → p < n → Stands ix p
  all_stand n r e p h = rw (settled_by ks n r e) (each n p h)

  pub all_differ : (n : ℕ) {least : ℕ} {ix : List ℕ} → Rising ks n least ix → length ix ≡ n → Distinct ks n
  all_differ n {ix = ix} r e p q h k same =
      let a = all_stand n r e p (omega arith) in
      let b = all_stand n r e q k in
      let ka : number_at ks (get_or ix a.at 0) ≡ number_at ks p = ap (λ (x : ℕ). number_at ks x) a.is in
      let kb : number_at ks (get_or ix b.at 0) ≡ number_at ks q = ap (λ (x : ℕ). number_at ks x) b.is in
      go a b ka kb (ltb a.at b.at) refl (ltb b.at a.at) refl
    where
      go : (a : Stands ix p) (b : Stands ix q) → number_at ks (get_or ix a.at 0) ≡ number_at ks p → number_at ks (get_or ix b.at 0) ≡ number_at ks q
          → (s : Bool) → ltb a.at b.at ≡ s → (t : Bool) → ltb b.at a.at ≡ t → ⊥
      go a b ka kb true x t y =
          let up = higher r a.at b.at (ltb-true a.at b.at x) b.inside in
          omega arith
      go a b ka kb false x true y =
          let up = higher r b.at a.at (ltb-true b.at a.at y) a.inside in
          omega arith
      go a b ka kb false x false y =
          let one = ltb-false a.at b.at x in
          let two = ltb-false b.at a.at y in
          let ats : a.at ≡ b.at = omega arith in
          let both : get_or ix a.at 0 ≡ get_or ix b.at 0 = ap (λ (i : ℕ). get_or ix i 0) ats in
          let i = a.is in
          let j = b.is in
          omega arith
