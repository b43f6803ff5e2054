-- The test of the index's rule, entry by entry.
use Rattle.std.specs.Prelude.{ℕ, ◌+◌, ◌*◌, ◌≤◌, ◌<◌, Bool, true, false, ◌≡◌, refl, take, get_or}
use Rattle.std.proofs.Common.{sym, ◌∙◌, add-one, drop-cons, length-take-le}
use Rattle.std.proofs.Math.Path.{ap}
use mathlib.Core.List.{List, [], ◌∷◌}
use borrow.Author.Tests.{lt-ltb, le-ltb, le-leb, lt-leb, eq-eqb}
use Rattle.std.proofs.Math.ListN.{drop, drop_of_length-le}
use Rattle.nodes.specs.Table.{width, rows, numbers}
use Rattle.nodes.specs.TableLaws.{rows-length}
use Rattle.index.specs.Index.{number_at, rises, indexed}
use Rattle.index.specs.Words.{IndexFits, number_word}

module _ (us ws : List ℕ) (count : ℕ) (fits : IndexFits us ws count) where
  abbrev pub rises_from : ℕ → ℕ → Bool
  rises_from least i = rises (numbers (rows count us)) count least (drop i (take count ws))

  abbrev whole : Bool
  whole = indexed (take count ws) (rows count us)

  pub rises_first : rises_from 0 0 ≡ whole
  rises_first =
      let size = rows-length count us in
      rw (length-take-le count ws fits.entries, size, eq-eqb count count refl)

  entry_turn : (i : ℕ) → i < count → drop i (take count ws) ≡ get_or (take count ws) i 0 ∷ drop (i + 1) (take count ws)
  entry_turn i h =
      drop-cons (take count ws) i 0 (rw (length-take-le count ws fits.entries) h)
      ∙ ap (λ (k : ℕ). get_or (take count ws) i 0 ∷ drop k (take count ws)) (sym (add-one i))

  -- at an entry with the place p, where k is the number
  module _ (least i p : ℕ) (h : i < count) (is : p ≡ get_or (take count ws) i 0) (s : rises_from least i ≡ whole) where
    given : rises (numbers (rows count us)) count least (p ∷ drop (i + 1) (take count ws)) ≡ whole
    given =
        ap (λ (q : ℕ). rises (numbers (rows count us)) count least (q ∷ drop (i + 1) (take count ws))) is
        ∙ ap (λ (l : List ℕ). rises (numbers (rows count us)) count least l) (sym (entry_turn i h))
        ∙ s

    -- an entry that is no place
    pub rises_past : count ≤ p → false ≡ whole
    unfolding rises
    rises_past past = rw (le-ltb p count past) at given

    module _ (near : p < count) (k : ℕ) (reads : k ≡ get_or us (width * p) 0) where
      here : number_at (numbers (rows count us)) p ≡ k
      here = number_word count us p near ∙ sym reads

      -- a number that is not higher than the one before it
      pub rises_low : k < least → false ≡ whole
      unfolding rises
      rises_low low = rw (lt-ltb p count near, here, lt-leb least k low) at given

      pub rises_on : least ≤ k → rises_from (k + 1) (i + 1) ≡ whole
      unfolding rises
      rises_on high = ap (λ (l : ℕ). rises_from l (i + 1)) (add-one k) ∙ (rw (lt-ltb p count near, here, le-leb least k high) at given)

  pub rises_end : (least i : ℕ) → count ≤ i → rises_from least i ≡ whole → true ≡ whole
  unfolding rises
  rises_end least i h s =
      let none : drop i (take count ws) ≡ [] = drop_of_length-le (take count ws) {i = i} (rw (length-take-le count ws fits.entries) h) in
      ap (λ (l : List ℕ). rises (numbers (rows count us)) count least l) (sym none) ∙ s
