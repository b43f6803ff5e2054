-- Numbers in a fixed run of words, with zeros past them.
use Rattle.std.specs.Prelude.{ℕ, suc, ◌+◌, ◌-◌, ◌≤◌, ◌<◌, ◌≡◌, set, replicate}
use Rattle.std.proofs.Math.Path.{refl, sym, ap, ap₂}
use Rattle.std.proofs.Common.{◌∙◌, length-append, take_all, take_at}
use mathlib.Core.List.{List, [], ◌∷◌, ◌++◌, append_assoc}
use native.Mathlib.Omega.{arith}
use Rattle.std.proofs.Math.ListN.{length, take, length-replicate}
use Rattle.std.proofs.lemmas.List.{replicate-append-replicate, set_at}
use Rattle.std.proofs.Math.Seq.{take-append-le, take-append-add}

-- numbers in n words: zeros past them, and no more than n are kept
unfoldable pub pad_to : ℕ → List ℕ → List ℕ
pad_to n l = take n (l ++ replicate n 0)

abbrev pub zeros : ℕ → List ℕ
zeros n = replicate n 0

module _ (n : ℕ) where
  pub pad_is : (l : List ℕ) → pad_to n l ≡ take n (l ++ replicate n 0)
  unfolding pad_to
  pad_is l = refl

  pub pad_none : zeros n ≡ pad_to n []
  unfolding pad_to
  pad_none = sym (take_all n (zeros n) (rw length-replicate (omega arith)))

  -- at most n numbers, and the zeros that follow them
  pub pad_few : (l : List ℕ) → length l ≤ n → pad_to n l ≡ l ++ zeros (n - length l)
  unfolding pad_to
  pad_few l h =
      let m = n - length l in
      let whole : n ≡ length l + m = omega arith in
      let back : m + length l ≡ n = omega arith in
      ap₂ (λ (k : ℕ) (z : List ℕ). take k (l ++ z)) whole (ap zeros (sym back) ∙ sym (replicate-append-replicate m (length l) 0))
      ∙ take-append-add l (zeros m ++ zeros (length l)) m
      ∙ ap (λ (z : List ℕ). l ++ z) (take_at (zeros m) (zeros (length l)) m (length-replicate m 0))

  -- past n numbers nothing is kept
  pub pad_full : (l : List ℕ) (x : ℕ) → n ≤ length l → pad_to n (l ++ x ∷ []) ≡ pad_to n l
  unfolding pad_to
  pad_full l x h =
      ap (λ (k : List ℕ). take n k) (append_assoc l (x ∷ []) (zeros n))
      ∙ take-append-le n l (x ∷ zeros n) h
      ∙ sym (take-append-le n l (zeros n) h)

  -- one number more
  pub pad_more : (l : List ℕ) (x : ℕ) → length l < n → set (pad_to n l) (length l) x ≡ pad_to n (l ++ x ∷ [])
  pad_more l x h =
      let m = n - (length l + 1) in
      let size : length (l ++ x ∷ []) ≡ length l + 1 = length-append l (x ∷ []) in
      let one : n - length l ≡ suc m = omega arith in
      ap (λ (k : List ℕ). set k (length l) x) (pad_few l (omega arith) ∙ ap (λ (k : ℕ). l ++ zeros k) one)
      ∙ set_at l 0 (zeros m) x (length l) refl
      ∙ sym (pad_few (l ++ x ∷ []) (omega arith) ∙ ap (λ (k : ℕ). (l ++ x ∷ []) ++ zeros (n - k)) size ∙ append_assoc l (x ∷ []) (zeros m))
