-- Laws of the bytes of a string, up to its first zero.
use Rattle.std.specs.Prelude.{ℕ, suc, ◌+◌, ◌<◌, Bool, true, false, ◌≡◌, refl, List, [], ◌∷◌, length, take, drop, get_or, leb, eqb}
use Rattle.std.proofs.Common.{add-one, arith}
use Rattle.std.proofs.Math.Seq.{drop-cons}
use borrow.Author.Tests.{eq-eqb, ne_eqb, le-leb, eqb-false}
use Rattle.words.specs.Choice.{pick, both}
use Rattle.format.specs.Fields.{name_bytes}
use Rattle.messages.specs.Form.{text_length}

-- the bytes before the first zero are at most 127
unfoldable pub text_good : List ℕ → Bool
text_good [] = true
text_good (b ∷ bs) = pick (eqb b 0) true (both (leb b 127) (text_good bs))

good_step : (z : Bool) (b : ℕ) (bs : List ℕ) → eqb b 0 ≡ z → name_bytes (take (text_length bs) bs) ≡ text_good bs → name_bytes (take (text_length (b ∷ bs)) (b ∷ bs)) ≡ text_good (b ∷ bs)
unfolding text_good text_length name_bytes
good_step true b bs e h = rw e
good_step false b bs e h =
    let other = eqb-false b 0 e in
    rw (e, le-leb 1 b (omega arith), h)

pub text-good : (l : List ℕ) → name_bytes (take (text_length l) l) ≡ text_good l
unfolding text_good text_length name_bytes
text-good [] = refl
text-good (b ∷ bs) = good_step (eqb b 0) b bs refl (text-good bs)

module _ (s : List ℕ) (i : ℕ) (h : i < length s) where
  pub length-zero : get_or s i 0 ≡ 0 → text_length (drop i s) ≡ 0
  unfolding text_length
  length-zero e = rw (drop-cons s i 0 h, eq-eqb (get_or s i 0) 0 e)

  pub length_turn : (get_or s i 0 ≡ 0 → ⊥) → text_length (drop i s) ≡ suc (text_length (drop (i + 1) s))
  unfolding text_length
  length_turn e = rw (add-one, drop-cons s i 0 h, ne_eqb (get_or s i 0) 0 e)

  pub good_zero : get_or s i 0 ≡ 0 → text_good (drop i s) ≡ true
  unfolding text_good
  good_zero e = rw (drop-cons s i 0 h, eq-eqb (get_or s i 0) 0 e)

  pub good_turn : (get_or s i 0 ≡ 0 → ⊥) → text_good (drop i s) ≡ both (leb (get_or s i 0) 127) (text_good (drop (i + 1) s))
  unfolding text_good
  good_turn e = rw (add-one, drop-cons s i 0 h, ne_eqb (get_or s i 0) 0 e)
