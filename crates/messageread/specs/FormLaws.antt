-- Laws of padded bytes.
use Rattle.std.specs.Prelude.{ℕ, ◌+◌, ◌≤◌, ◌<◌, Bool, true, false, ◌≡◌, refl, List, [], ◌∷◌, zero, suc, length, get_or, leb, eqb, EachIndex, IsTrue, ◌↔◌}
use Rattle.std.proofs.Common.{sym, ap, arith, le-leb, eqb-true}
use Rattle.std.proofs.lemmas.Bool.{lt-leb}
use Rattle.words.specs.Choice.{pick, both}
use Rattle.words.specs.ChoiceLaws.{both_true}
use Rattle.words.specs.Parts.{region}
use Rattle.messages.specs.Form.{Parse, parsed, faulty, and_then, zeros, padded_at}

pick_same : {A : Type 0} (b : Bool) (x : A) → x ≡ pick b x x
pick_same true x = refl
pick_same false x = refl

both_no : (a : Bool) → both a false ≡ false
both_no true = refl
both_no false = refl

-- a reading that goes on, by what was read first
module _ {A B : Type 0} where
  pub goes_on : (p : Parse A) (more : A → ℕ → Parse B) {x : A} {next : ℕ} → parsed x next ≡ p → more x next ≡ and_then p more
  goes_on p more h = ap (λ (q : Parse A). and_then q more) h

  pub stops : (p : Parse A) (more : A → ℕ → Parse B) → faulty ≡ p → faulty ≡ and_then p more
  stops p more h = ap (λ (q : Parse A). and_then q more) h

-- zeros are bytes that are each zero
zeros-each : (l : List ℕ) → zeros l ≡ true → EachIndex l (λ k. get_or l k 0 ≡ 0)
unfolding zeros
zeros-each [] h k lt = absurd (omega arith)
zeros-each (b ∷ bs) h zero lt = eqb-true b 0 (both_true (eqb b 0) (zeros bs) h).0
zeros-each (b ∷ bs) h (suc k) lt = zeros-each bs (both_true (eqb b 0) (zeros bs) h).1 k (omega arith)

each-zeros : (l : List ℕ) → EachIndex l (λ k. get_or l k 0 ≡ 0) → zeros l ≡ true
unfolding zeros
each-zeros [] h = refl
each-zeros (b ∷ bs) h = rw (h 0 (omega arith)) (each-zeros bs (λ k lt. h (suc k) (omega arith)))

pub zeros_all : (l : List ℕ) (b : Bool) → (IsTrue b ↔ EachIndex l (λ k. get_or l k 0 ≡ 0)) → b ≡ zeros l
zeros_all l true h = sym (each-zeros l (h.0 refl))
zeros_all l false h = by (zeros l) refl
  where
    by : (z : Bool) → zeros l ≡ z → false ≡ z
    by true e = h.1 (zeros-each l e)
    by false e = refl

module _ (n pad : ℕ) (fits : List ℕ → Bool) (s : List ℕ) (at : ℕ) where
  pub padded_cut : length s < at + (n + pad) → faulty ≡ padded_at n pad fits s at
  padded_cut h = rw (lt-leb (at + (n + pad)) (length s) h)

  pub padded-unfit : fits (region at n s) ≡ false → faulty ≡ padded_at n pad fits s at
  padded-unfit h = rw h (pick_same (leb (at + (n + pad)) (length s)) faulty)

  pub padded_marked : zeros (region (at + n) pad s) ≡ false → faulty ≡ padded_at n pad fits s at
  padded_marked h = rw (h, both_no (fits (region at n s))) (pick_same (leb (at + (n + pad)) (length s)) faulty)

  pub padded_read : at + (n + pad) ≤ length s → fits (region at n s) ≡ true → zeros (region (at + n) pad s) ≡ true
      → parsed (region at n s) (at + (n + pad)) ≡ padded_at n pad fits s at
  padded_read h f z = rw (le-leb (at + (n + pad)) (length s) h, f, z)
