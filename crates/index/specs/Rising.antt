-- Entries whose numbers rise: taken one by one, and two of them compared.
use Rattle.std.specs.Prelude.{ℕ, zero, suc, ◌≤◌, ◌<◌, true, ◌≡◌, length, get_or, ltb, leb}
use Rattle.std.proofs.Math.Path.{refl}
use mathlib.Core.List.{List, [], ◌∷◌}
use Rattle.std.proofs.Common.{arith}
use borrow.Author.Tests.{ltb-true, leb-true, lt-ltb, le-leb}
use Rattle.words.specs.Choice.{both}
use Rattle.words.specs.ChoiceLaws.{both_true}
use Rattle.index.specs.Index.{number_at, rises}

pub data Rising (ks : List ℕ) (n : ℕ) : ℕ → List ℕ → Type 0 where
  done : {least : ℕ} → Rising ks n least []
  next : {least p : ℕ} {ix : List ℕ} → p < n → least ≤ number_at ks p → Rising ks n (suc (number_at ks p)) ix → Rising ks n least (p ∷ ix)

module _ {ks : List ℕ} where
  pub rising : (n least : ℕ) (ix : List ℕ) → rises ks n least ix ≡ true → Rising ks n least ix
  unfolding rises
  rising n least [] h = done
  rising n least (p ∷ ix) h =
      let a = both_true (ltb p n) (both (leb least (number_at ks p)) (rises ks n (suc (number_at ks p)) ix)) h in
      let b = both_true (leb least (number_at ks p)) (rises ks n (suc (number_at ks p)) ix) a.1 in
      next (ltb-true p n a.0) (leb-true least (number_at ks p) b.0) (rising n (suc (number_at ks p)) ix b.1)

  pub rising_rises : {n least : ℕ} {ix : List ℕ} → Rising ks n least ix → rises ks n least ix ≡ true
  unfolding rises
  rising_rises done = refl
  rising_rises {n = n} {least = least} (next {p = p} a b r) = rw (lt-ltb p n a, le-leb least (number_at ks p) b) (rising_rises r)

  -- with less asked
  pub rising_from : {n least : ℕ} {ix : List ℕ} (l : ℕ) → l ≤ least → Rising ks n least ix → Rising ks n l ix
  rising_from l h done = done
  rising_from l h (next {p = p} a b r) = next {least = l} {p = p} a (omega arith) r

  pub rising_below : {n least : ℕ} {ix : List ℕ} (m : ℕ) → n ≤ m → Rising ks n least ix → Rising ks m least ix
  rising_below m h done = done
  rising_below {least = least} m h (next {p = p} a b r) = next {least = least} {p = p} (omega arith) b (rising_below m h r)

  -- each entry is a place, and its number is high enough
  pub entry : {n least : ℕ} {ix : List ℕ} → Rising ks n least ix → (i : ℕ) → i < length ix → (get_or ix i 0 < n) × (least ≤ number_at ks (get_or ix i 0))
  entry done i h = absurd (omega arith)
  entry (next a b r) zero h = (a, b)
  entry (next a b r) (suc i) h = let e = entry r i (omega arith) in (e.0, omega arith)

  -- of two entries the later has the higher number
  pub higher : {n least : ℕ} {ix : List ℕ} → Rising ks n least ix → (i j : ℕ) → i < j → j < length ix → number_at ks (get_or ix i 0) < number_at ks (get_or ix j 0)
  higher done i j h k = absurd (omega arith)
  higher (next a b r) zero zero h k = absurd (omega arith)
  higher (next a b r) zero (suc j) h k = let e = entry r j (omega arith) in omega arith
  higher (next a b r) (suc i) zero h k = absurd (omega arith)
  higher (next a b r) (suc i) (suc j) h k = higher r i j (omega arith) (omega arith)
