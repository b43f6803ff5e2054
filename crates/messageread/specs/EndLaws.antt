-- Laws of a string's end: the bytes that were passed are none of them a zero, and at most 127.
use Rattle.std.specs.Prelude.{ℕ, ◌+◌, ◌-◌, ◌%◌, ◌≤◌, ◌<◌, false, ◌≡◌, refl, List, length, drop, get_or}
use Rattle.std.proofs.Common.{◌∙◌, arith, drop_of_length-le, le-leb}
use Rattle.std.proofs.lemmas.Bool.{lt-leb}
use Rattle.words.specs.Parts.{region}
use Rattle.format.specs.Fields.{name_bytes}
use Rattle.messages.specs.Form.{text_length, string_at, faulty}
use Rattle.messageread.specs.Ends.{Ended}
use Rattle.messageread.specs.FormLaws.{padded_cut, padded-unfit}
use Rattle.messageread.specs.TextLaws.{text_good, text-good, length-zero, length_turn, good_zero, good_turn}

-- the string from a place on goes as what is left of it from i on
pub record Passed (s : List ℕ) (at i : ℕ) : Type 0 where
  pub behind : at ≤ i
  pub size : text_length (drop at s) ≡ i - at + text_length (drop i s)
  pub good : text_good (drop at s) ≡ text_good (drop i s)

module _ (s : List ℕ) (at : ℕ) where
  pub none_passed : Passed s at at
  none_passed =
      let none : at - at ≡ 0 = omega arith in
      record { behind = omega arith; size = omega arith; good = refl }

  module _ (i : ℕ) (p : Passed s at i) where
    pub one_passed : i < length s → (get_or s i 0 ≡ 0 → ⊥) → get_or s i 0 ≤ 127 → Passed s at (i + 1)
    one_passed h e low =
        let turn = length_turn s i h e in
        let size = p.size in
        record {
          behind = omega arith;
          size = omega arith;
          good = rw (le-leb (get_or s i 0) 127 low) at (p.good ∙ good_turn s i h e);
        }

    pub ends_zero : i < length s → get_or s i 0 ≡ 0 → Ended s at i
    ends_zero h e =
        let none = length-zero s i h e in
        let size : text_length (drop at s) ≡ i - at = (let z = p.size in omega arith) in
        record {
          behind = p.behind;
          within = h;
          size = size;
          good = rw size at (text-good (drop at s)) ∙ p.good ∙ good_zero s i h e;
        }

    pub ends_high : i < length s → (get_or s i 0 ≡ 0 → ⊥) → 127 < get_or s i 0 → faulty ≡ string_at s at
    ends_high h e high =
        let bad : name_bytes (region at (text_length (drop at s)) s) ≡ false =
        text-good (drop at s) ∙ (rw (lt-leb (get_or s i 0) 127 high) at (p.good ∙ good_turn s i h e)) in
        padded-unfit (text_length (drop at s)) (4 - text_length (drop at s) % 4) name_bytes s at bad

    pub ends_cut : length s ≤ i → faulty ≡ string_at s at
    unfolding text_length
    ends_cut h =
        let rest : text_length (drop i s) ≡ 0 = rw (drop_of_length-le s h) in
        let size = p.size in
        padded_cut (text_length (drop at s)) (4 - text_length (drop at s) % 4) name_bytes s at (omega arith)
