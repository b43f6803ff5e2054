-- Laws of an address that is held against one of the table four bytes at a time.
use Rattle.std.specs.Prelude.{ℕ, zero, suc, ◌+◌, ◌-◌, ◌≤◌, ◌<◌, Bool, true, false, ◌≡◌, refl, List, length, get_or, eqb, ltb}
use Rattle.std.proofs.Common.{sym, ap, ◌∙◌, arith, ext_get_or, ltb-true, ltb-false, eqb-true}
use Rattle.std.proofs.lemmas.Bool.{eqb-false}
use Rattle.words.specs.Bytes.{AreBytes}
use Rattle.format.specs.Fields.{word}
use Rattle.format.specs.Reader.{same_name}
use Rattle.order.specs.Same.{same_true, same_refl}
use Rattle.calls.specs.Ops.{last_with_address}

-- an op that has a row
pub record Known (op : ℕ) : Type 0 where
  pub some : 1 ≤ op
  pub few : op ≤ last_with_address

-- addresses that differ in something differ
pub differ : (a b : List ℕ) (f : List ℕ → ℕ) → (f a ≡ f b → ⊥) → same_name a b ≡ false
differ a b f h = go (same_name a b) refl
  where
    go : (t : Bool) → same_name a b ≡ t → t ≡ false
    go true e = absurd (h (ap f (same_true a b e)))
    go false e = refl

module _ (a b : List ℕ) (lent : AreBytes a) (bytes : AreBytes b) where
  -- the same number is the same four bytes
  module _ (at r : ℕ) (q : r ≡ word a at) (e : r ≡ word b at) where
    same_bytes : (get_or a at 0 ≡ get_or b at 0) × (get_or a (at + 1) 0 ≡ get_or b (at + 1) 0) × (get_or a (at + 2) 0 ≡ get_or b (at + 2) 0) × (get_or a (at + 3) 0 ≡ get_or b (at + 3) 0)
    same_bytes =
        let y0 = lent at in
        let y1 = lent (at + 1) in
        let y2 = lent (at + 2) in
        let y3 = lent (at + 3) in
        let z0 = bytes at in
        let z1 = bytes (at + 1) in
        let z2 = bytes (at + 2) in
        let z3 = bytes (at + 3) in
        (omega arith, omega arith, omega arith, omega arith)

    four : (i j : ℕ) → i ≡ at + j → j < 4 → get_or a i 0 ≡ get_or b i 0
    four i zero h l = let s : i ≡ at = omega arith in rw s same_bytes.0
    four i (suc zero) h l = rw h same_bytes.1
    four i (suc (suc zero)) h l = rw h same_bytes.2
    four i (suc (suc (suc zero))) h l = rw h same_bytes.3
    four i (suc (suc (suc (suc j)))) h l = absurd (omega arith)

    pub same_four : (i : ℕ) → at ≤ i → i < at + 4 → get_or a i 0 ≡ get_or b i 0
    same_four i l h = four i (i - at) (omega arith) (omega arith)

  -- the first four bytes and the last, and those between them
  pub same_words : (r₀ r₁ : ℕ) → length a ≡ length b → 6 ≤ length b → r₀ ≡ word a 0 → r₀ ≡ word b 0 → r₁ ≡ word a (length a - 4) → r₁ ≡ word b (length a - 4)
      → ((i : ℕ) → 4 ≤ i → i < length a - 4 → get_or a i 0 ≡ get_or b i 0) → same_name a b ≡ true
  same_words r₀ r₁ size long front e back f between = ap (λ (l : List ℕ). same_name l b) (ext_get_or 0 a b size at_each) ∙ same_refl b
    where
      at_each : (i : ℕ) → i < length a → get_or a i 0 ≡ get_or b i 0
      at_each i l = go (ltb i 4) (ltb i (length a - 4)) refl refl
        where
          go : (t u : Bool) → ltb i 4 ≡ t → ltb i (length a - 4) ≡ u → get_or a i 0 ≡ get_or b i 0
          go true u h k = let z = ltb-true i 4 h in same_four 0 r₀ front e i (omega arith) (omega arith)
          go false true h k = between i (ltb-false i 4 h) (ltb-true i (length a - 4) k)
          go false false h k = let z = ltb-false i (length a - 4) k in same_four (length a - 4) r₁ back f i z (omega arith)

  pub same_or_not : (r₀ r₁ r₂ m : ℕ) → length a ≡ length b → 6 ≤ length b → length b ≤ 12 → r₀ ≡ word a 0 → r₀ ≡ word b 0 → r₁ ≡ word a (length a - 4) → r₁ ≡ word b (length a - 4)
      → r₂ ≡ word a 4 → m ≡ word b 4 → eqb r₂ m ≡ same_name a b
  same_or_not r₀ r₁ r₂ m size long short front e back f middle g = go (eqb r₂ m) refl
    where
      go : (t : Bool) → eqb r₂ m ≡ t → t ≡ same_name a b
      go true h =
          let same = eqb-true r₂ m h ∙ g in
          sym (same_words r₀ r₁ size long front e back f (λ i l k. same_four 4 r₂ middle same i l (omega arith)))
      go false h = sym (differ a b (λ (l : List ℕ). word l 4) (λ k. eqb-false r₂ m h (middle ∙ k ∙ sym g)))
