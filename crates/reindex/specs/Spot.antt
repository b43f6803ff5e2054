-- Where a new entry goes, and the words with it put in.
use Rattle.std.specs.Prelude.{ℕ, zero, suc, ◌+◌, ◌*◌, ◌-◌, ◌≤◌, ◌<◌, Bool, true, false, ◌≡◌, refl, List, [], ◌∷◌, ◌++◌, length, take, drop, get_or, set, ltb, eqb}
use Rattle.std.proofs.Common.{sym, ap, ap₂, ◌∙◌, append_assoc, arith, add-one, lt-ltb, le-ltb, eqb-true, length-drop, get_or-take, length-take-le, take-take, take-add, drop_at}
use Rattle.std.proofs.lemmas.Bool.{eqb-false}
use Rattle.std.proofs.lemmas.List.{set_split}
use Rattle.std.proofs.lemmas.List.Edits.{length-paste}
use Rattle.std.proofs.Math.Seq.{paste}
use Rattle.words.specs.Choice.{pick}
use Rattle.nodes.specs.Table.{width, rows, numbers}
use Rattle.nodes.specs.TableLaws.{gap_over}
use Rattle.index.specs.Index.{number_at, put_in}
use Rattle.index.specs.Words.{number_word}

-- how many entries stand before the first whose number is higher than k
unfoldable pub spot : List ℕ → ℕ → List ℕ → ℕ
spot ks k [] = 0
spot ks k (q ∷ ix) = pick (ltb k (number_at ks q)) 0 (suc (spot ks k ix))

spot_most : (ks : List ℕ) (k : ℕ) (ix : List ℕ) → spot ks k ix ≤ length ix
unfolding spot
spot_most ks k [] = omega arith
spot_most ks k (q ∷ ix) = go (spot_most ks k ix) (ltb k (number_at ks q))
  where
    go : spot ks k ix ≤ length ix → (b : Bool) → pick b 0 (suc (spot ks k ix)) ≤ suc (length ix)
    go ih true = omega arith
    go ih false = omega arith

put_spot : (ks : List ℕ) (p : ℕ) (ix : List ℕ) → put_in ks p ix ≡ take (spot ks (number_at ks p) ix) ix ++ p ∷ drop (spot ks (number_at ks p) ix) ix
unfolding spot put_in
put_spot ks p [] = refl
put_spot ks p (q ∷ ix) = go (put_spot ks p ix) (ltb (number_at ks p) (number_at ks q))
  where
    go : put_in ks p ix ≡ take (spot ks (number_at ks p) ix) ix ++ p ∷ drop (spot ks (number_at ks p) ix) ix → (b : Bool)
        → pick b (p ∷ (q ∷ ix)) (q ∷ put_in ks p ix) ≡ take (pick b 0 (suc (spot ks (number_at ks p) ix))) (q ∷ ix) ++ p ∷ drop (pick b 0 (suc (spot ks (number_at ks p) ix))) (q ∷ ix)
    go ih true = refl
    go ih false = ap (λ (l : List ℕ). q ∷ l) ih

-- words that hold one record more than there are entries, each of them a place there, whose numbers rise
pub record Reads (us ws : List ℕ) (count : ℕ) : Type 0 where
  pub room : width * (count + 1) ≤ length us
  pub few : count < 256
  pub entries : count < length ws
  pub below : (i : ℕ) → i < count → get_or ws i 0 ≤ count
  pub rises : (i j : ℕ) → i < j → j < count → get_or us (width * get_or ws i 0) 0 < get_or us (width * get_or ws j 0) 0

-- up to the spot no number is higher, and there one is
spot_is : (ks : List ℕ) (k : ℕ) (ix : List ℕ) (r : ℕ) → r ≤ length ix → ((i : ℕ) → i < r → number_at ks (get_or ix i 0) ≤ k) → (r < length ix → k < number_at ks (get_or ix r 0)) → r ≡ spot ks k ix
unfolding spot
spot_is ks k [] r h low high = omega arith
spot_is ks k (q ∷ ix) zero h low high = rw (lt-ltb k (number_at ks q) (high (omega arith)))
spot_is ks k (q ∷ ix) (suc r) h low high =
    rw (le-ltb k (number_at ks q) (low 0 (omega arith)))
    (ap suc (spot_is ks k ix r (omega arith) (λ i l. low (suc i) (omega arith)) (λ l. high (omega arith))))

-- a search between two bounds: below the one no number is higher than k, and from the other on all are
pub record Between (us ws : List ℕ) (count k low high : ℕ) : Type 0 where
  pub near : high ≤ count
  pub under : (i : ℕ) → i < low → get_or us (width * get_or ws i 0) 0 ≤ k
  pub over : (i : ℕ) → high ≤ i → i < count → k < get_or us (width * get_or ws i 0) 0

module _ (us ws : List ℕ) (count k : ℕ) (reads : Reads us ws count) where
  pub between_all : Between us ws count k 0 count
  between_all = record { near = omega arith; under = λ i h. absurd (omega arith); over = λ i h l. absurd (omega arith) }

  module _ (low high middle p : ℕ) (some : low ≤ middle) (more : middle < high) (b : Between us ws count k low high) (is : p ≡ get_or ws middle 0) where
    same : get_or us (width * p) 0 ≡ get_or us (width * get_or ws middle 0) 0
    same = ap (λ (q : ℕ). get_or us (width * q) 0) is

    pub between_down : k < get_or us (width * p) 0 → Between us ws count k low middle
    between_down h = record { near = omega (arith, b.near); under = b.under; over = λ i l m. go i l m (eqb i middle) refl }
      where
        go : (i : ℕ) → middle ≤ i → i < count → (x : Bool) → eqb i middle ≡ x → k < get_or us (width * get_or ws i 0) 0
        go i l m true e = rw (eqb-true i middle e) (omega (arith, same))
        go i l m false e = let o = eqb-false i middle e in omega (arith, same, reads.rises middle i (omega arith) m)

    pub between_up : get_or us (width * p) 0 ≤ k → Between us ws count k (middle + 1) high
    between_up h = record { near = b.near; under = λ i l. go i l (eqb i middle) refl; over = b.over }
      where
        go : (i : ℕ) → i < middle + 1 → (x : Bool) → eqb i middle ≡ x → get_or us (width * get_or ws i 0) 0 ≤ k
        go i l true e = rw (eqb-true i middle e) (omega (arith, same))
        go i l false e = let o = eqb-false i middle e in omega (arith, same, reads.rises i middle (omega arith) (omega (arith, b.near)))

  abbrev ks : List ℕ
  ks = numbers (rows (count + 1) us)

  size : length (take count ws) ≡ count
  size = length-take-le count ws (omega (arith, reads.entries))

  word : (i : ℕ) → i < count → number_at ks (get_or (take count ws) i 0) ≡ get_or us (width * get_or ws i 0) 0
  word i h =
      ap (λ (q : ℕ). number_at ks q) (get_or-take count ws i 0 h)
      ∙ number_word (count + 1) us (get_or ws i 0) (omega (arith, reads.below i h))

  pub between_met : (low high : ℕ) → low ≤ high → high ≤ low → Between us ws count k low high → low ≡ spot ks k (take count ws)
  between_met low high h l b =
      spot_is ks k (take count ws) low (omega (arith, size, b.near))
      (λ i m. omega (arith, word i (omega (arith, b.near)), b.under i m))
      (λ m. omega (arith, word low (omega (arith, size)), b.over low l (omega (arith, size))))

  pub spot_near : spot ks k (take count ws) ≤ count
  spot_near = omega (arith, size, spot_most ks k (take count ws))

-- the entries with one put in at a place
pub put_words : (w : List ℕ) (count at v : ℕ) → at ≤ count → count < length w
    → set (paste w (at + 1) (drop at w) (count - at)) at v ≡ (take at (take count w) ++ v ∷ drop at (take count w)) ++ drop (count + 1) w
put_words w count at v h k =
    let p = paste w (at + 1) (drop at w) (count - at) in
    let ends : at + 1 + (count - at) ≡ count + 1 = omega arith in
    let whole : count ≡ at + (count - at) = omega arith in
    let parts : take count w ≡ take at w ++ take (count - at) (drop at w) =
    ap (λ (n : ℕ). take n w) whole ∙ take-add at (count - at) w in
    let front : take at (take count w) ≡ take at w = take-take at count w h in
    let back : drop at (take count w) ≡ take (count - at) (drop at w) =
    ap (λ (l : List ℕ). drop at l) parts ∙ drop_at (take at w) (take (count - at) (drop at w)) at (length-take-le at w (omega arith)) in
    let m = count - at in
    let some : m ≤ length (drop at w) = simp length-drop (omega arith) in
    let same = length-paste w (at + 1) (drop at w) m (omega arith) some in
    set_split p at v (omega arith)
    ∙ ap (λ (n : ℕ). take at p ++ v ∷ drop n p) (sym (add-one at))
    ∙ sym (append_assoc (take at p) (v ∷ []) (drop (at + 1) p))
    ∙ gap_over w at m (v ∷ []) 1 refl (omega arith)
    ∙ ap (λ (n : ℕ). take at w ++ v ∷ (take m (drop at w) ++ drop n w)) ends
    ∙ sym (append_assoc (take at w) (v ∷ take m (drop at w)) (drop (count + 1) w))
    ∙ ap₂ (λ (a b : List ℕ). (a ++ v ∷ b) ++ drop (count + 1) w) (sym front) (sym back)

-- the entry put in at its spot
pub put_in_words : (us ws : List ℕ) (count at i : ℕ) → at ≤ count → i ≡ spot (numbers (rows (count + 1) us)) (get_or us (width * at) 0) (take count ws)
    → (take i (take count ws) ++ at ∷ drop i (take count ws)) ++ drop (count + 1) ws ≡ put_in (numbers (rows (count + 1) us)) at (take count ws) ++ drop (count + 1) ws
put_in_words us ws count at i near e =
    let ks = numbers (rows (count + 1) us) in
    let word : number_at ks at ≡ get_or us (width * at) 0 = number_word (count + 1) us at (omega arith) in
    let here : i ≡ spot ks (number_at ks at) (take count ws) = rw word e in
    ap (λ (j : ℕ). (take j (take count ws) ++ at ∷ drop j (take count ws)) ++ drop (count + 1) ws) here
    ∙ ap (λ (l : List ℕ). l ++ drop (count + 1) ws) (sym (put_spot ks at (take count ws)))
