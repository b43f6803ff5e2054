-- Items of a run moved: taken out, and put in at a place of what is left.
use Rattle.std.specs.Prelude.{ℕ, ◌+◌, ◌-◌, ◌≤◌, ◌≡◌, List, ◌++◌, length, take, drop}
use Rattle.std.proofs.Common.{sym, ap, ap₂, ◌∙◌, append_assoc, arith, length-append, length-drop, take-add, drop_at, drop-drop, take-take, length-take-le}
use Rattle.std.proofs.lemmas.List.{take-append-le, drop-append-le}
use Rattle.std.proofs.Math.Seq.{take-append-add, drop-append-add, paste}
use Rattle.std.proofs.lemmas.List.Edits.{take-paste, drop-paste}

module _ {A : Type 0} where
  -- the run without its items from a place up to another
  abbrev pub without : ℕ → ℕ → List A → List A
  without from to l = take from l ++ drop to l

  -- the run with items put in at a place
  abbrev pub put_in : ℕ → List A → List A → List A
  put_in at ys l = take at l ++ (ys ++ drop at l)

  pub put_in_length : (at : ℕ) (ys l : List A) → at ≤ length l → length (put_in at ys l) ≡ length ys + length l
  put_in_length at ys l h = simp (length-append, length-drop) (omega (arith, length-take-le at l h))

  -- a run that has at each side of a place what is left without some items, and room for them between
  pub record Opened (l : List A) (from to at : ℕ) (after : List A) : Type 0 where
    pub front : take at after ≡ take at (without from to l)
    pub back : drop (at + (to - from)) after ≡ drop at (without from to l)

  pub drop-take : (a b : ℕ) (l : List A) → a ≤ b → b ≤ length l → drop a (take b l) ≡ take (b - a) (drop a l)
  drop-take a b l h g =
      let e : b ≡ a + (b - a) = omega arith in
      ap (λ (k : ℕ). drop a (take k l)) e ∙ ap (λ (m : List A). drop a m) (take-add a (b - a) l) ∙ drop_at (take a l) (take (b - a) (drop a l)) a (length-take-le a l (omega arith))

  module _ (l : List A) (from to at : ℕ) (order : from ≤ to) (inside : to ≤ length l) where
    front_length : length (take from l) ≡ from
    front_length = length-take-le from l (omega arith)

    -- a place before the items: what is between goes up
    pub opened_up : at ≤ from → Opened l from to at (paste l (at + (to - from)) (drop at l) (from - at))
    opened_up h =
        let g = to - from in
        let z = take (from - at) (drop at l) ++ drop (at + g + (from - at)) l in
        let regroup : paste l (at + g) (drop at l) (from - at) ≡ take (at + g) l ++ z = append_assoc (take (at + g) l) (take (from - at) (drop at l)) (drop (at + g + (from - at)) l) in
        let ends : at + g + (from - at) ≡ to = omega arith in record {
          front =
              ap (λ (m : List A). take at m) regroup
              ∙ take-append-le at (take (at + g) l) z (rw (length-take-le (at + g) l (omega arith)) (omega arith))
              ∙ take-take at (at + g) l (omega arith)
              ∙ sym (take-append-le at (take from l) (drop to l) (rw front_length h) ∙ take-take at from l h);
          back =
              ap (λ (m : List A). drop (at + g) m) regroup
              ∙ drop_at (take (at + g) l) z (at + g) (length-take-le (at + g) l (omega arith))
              ∙ ap₂ (λ (m : List A) (k : ℕ). m ++ drop k l) (sym (drop-take at from l h (omega arith))) ends
              ∙ sym (drop-append-le at (take from l) (drop to l) (rw front_length h));
        }

    -- a place behind them: what is between comes down
    pub opened_down : from ≤ at → at + (to - from) ≤ length l → Opened l from to at (paste l from (drop to l) (at + (to - from) - to))
    opened_down h far =
        let g = to - from in
        let n = at + g - to in
        let p = paste l from (drop to l) n in
        let less : from + n ≡ at = omega arith in
        let short : n ≤ length (drop to l) = simp length-drop (omega arith) in
        let whole : length (take from l) + n ≡ at = omega (arith, front_length) in
        let past : to + n ≡ at + g = omega arith in record {
          front =
              ap (λ (k : ℕ). take k p) (sym less)
              ∙ take-paste l from (drop to l) n (omega arith) short
              ∙ sym (ap (λ (k : ℕ). take k (without from to l)) (sym whole) ∙ take-append-add (take from l) (drop to l) n);
          back =
              sym (drop-drop g at p)
              ∙ ap (λ (m : List A). drop g m) (ap (λ (k : ℕ). drop k p) (sym less) ∙ drop-paste l from (drop to l) n (omega arith) short ∙ ap (λ (k : ℕ). drop k l) less)
              ∙ drop-drop g at l
              ∙ sym (ap (λ (k : ℕ). drop k (without from to l)) (sym whole) ∙ drop-append-add (take from l) (drop to l) n ∙ drop-drop n to l ∙ ap (λ (k : ℕ). drop k l) past);
        }

    -- the items written into the room between
    pub put_between : (mid vs : List A) → Opened l from to at mid → take (to - from) vs ≡ take (to - from) (drop from l)
        → paste mid at vs (to - from) ≡ put_in at (take (to - from) (drop from l)) (without from to l)
    put_between mid vs o e =
        append_assoc (take at mid) (take (to - from) vs) (drop (at + (to - from)) mid)
        ∙ ap₂ (λ (a b : List A). a ++ (take (to - from) vs ++ b)) o.front o.back
        ∙ ap (λ (m : List A). take at (without from to l) ++ (m ++ drop at (without from to l))) e
