-- A padded string, four bytes at a time.
use Rattle.std.specs.Prelude.{ℕ, suc, ◌+◌, ◌-◌, ◌%◌, ◌≤◌, ◌<◌, Bool, true, false, ◌≡◌, refl, List, [], ◌∷◌, ◌++◌, ltb, length, take, drop, get_or, replicate}
use Rattle.std.proofs.Common.{sym, ap, ◌∙◌, arith, ltb-true, ltb-false, take-add, length-take-le, drop-cons, get_or-append-add}
use Rattle.std.proofs.lemmas.List.{get_or-replicate}
use Rattle.std.proofs.Math.ListN.{get_or-append, get_or-eq_default}
use Rattle.std.proofs.Math.Seq.{take-length}
use Rattle.osc.specs.Message.{padded}
use Rattle.osc.specs.Lengths.{padded_size}
use Rattle.words.specs.Parts.{over}
use Rattle.osc.specs.Over.{over_over}

-- its bytes are the string's, and zeros behind
padded_byte : (s : List ℕ) (k : ℕ) → k < length (padded s) → get_or (padded s) k 0 ≡ get_or s k 0
padded_byte s k h = go (ltb k (length s)) refl
  where
    go : (b : Bool) → ltb k (length s) ≡ b → get_or (padded s) k 0 ≡ get_or s k 0
    go true e = get_or-append s (replicate (4 - length s % 4) 0) 0 k (ltb-true k (length s) e)
    go false e =
        let past : length s ≤ k = ltb-false k (length s) e in
        let on : length s + (k - length s) ≡ k = omega arith in
        let few : k - length s < 4 - length s % 4 = omega (arith, padded_size s) in
        ap (λ (m : ℕ). get_or (padded s) m 0) (sym on)
        ∙ get_or-append-add s (replicate (4 - length s % 4) 0) (k - length s) 0
        ∙ get_or-replicate (4 - length s % 4) (k - length s) 0 0 few
        ∙ sym (get_or-eq_default s 0 past)

-- the four bytes at a place
abbrev pub four_at : List ℕ → ℕ → List ℕ
four_at s i = get_or s i 0 ∷ (get_or s (i + 1) 0 ∷ (get_or s (i + 2) 0 ∷ (get_or s (i + 3) 0 ∷ [])))

take_four : (l : List ℕ) (i : ℕ) → i + 4 ≤ length l → take 4 (drop i l) ≡ four_at l i
take_four l i h =
    let one : i + 1 ≡ suc i = omega arith in
    let two : i + 2 ≡ suc (suc i) = omega arith in
    let three : i + 3 ≡ suc (suc (suc i)) = omega arith in
    rw (one, two, three, drop-cons l i 0 (omega arith), drop-cons l (suc i) 0 (omega arith), drop-cons l (suc (suc i)) 0 (omega arith), drop-cons l (suc (suc (suc i))) 0 (omega arith))

-- four bytes more
padded_four : (s : List ℕ) (i : ℕ) → i + 4 ≤ length (padded s) → take i (padded s) ++ four_at s i ≡ take (i + 4) (padded s)
padded_four s i h =
    let at : (k : ℕ) → k < i + 4 → get_or (padded s) k 0 ≡ get_or s k 0 = λ k l. padded_byte s k (omega arith) in
    sym (take-add i 4 (padded s) ∙ rw (take_four (padded s) i h, at i (omega arith), at (i + 1) (omega arith), at (i + 2) (omega arith), at (i + 3) (omega arith)))

module _ (s us out : List ℕ) (at i : ℕ) (room : at + length (padded s) ≤ length us) (so_far : out ≡ over at (take i (padded s)) us) where
  -- a group more, written
  pub over_four : i + 4 ≤ length (padded s) → over (at + i) (four_at s i) out ≡ over at (take (i + 4) (padded s)) us
  over_four h =
      let front : length (take i (padded s)) ≡ i = length-take-le i (padded s) (omega arith) in
      ap (λ (l : List ℕ). over (at + i) (four_at s i) l) so_far
      ∙ over_over at (at + i) (take i (padded s)) (four_at s i) us (ap (λ (k : ℕ). at + k) (sym front)) (omega arith)
      ∙ ap (λ (l : List ℕ). over at l us) (padded_four s i h)

  -- the last group: what is left of the string, and at least one zero
  pub over_last : i ≤ length s → length s - i ≤ 3 → i % 4 ≡ 0 → over (at + i) (get_or s i 0 ∷ (get_or s (i + 1) 0 ∷ (get_or s (i + 2) 0 ∷ (0 ∷ [])))) out ≡ over at (padded s) us
  over_last low few fours =
      let ends : i + 4 ≡ length (padded s) = omega (arith, padded_size s) in
      let past : 0 ≡ get_or s (i + 3) 0 = sym (get_or-eq_default s 0 (omega arith)) in
      ap (λ (b : ℕ). over (at + i) (get_or s i 0 ∷ (get_or s (i + 1) 0 ∷ (get_or s (i + 2) 0 ∷ (b ∷ [])))) out) past
      ∙ over_four (omega arith)
      ∙ ap (λ (l : List ℕ). over at l us) (ap (λ (k : ℕ). take k (padded s)) ends ∙ take-length (padded s))
