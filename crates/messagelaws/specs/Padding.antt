-- Bytes and the zeros behind them.
use Rattle.std.specs.Prelude.{ℕ, zero, suc, ◌+◌, ◌-◌, ◌≤◌, ◌≡◌, refl, Bool, true, false, List, [], ◌∷◌, ◌++◌, length, take, drop, replicate, leb, eqb}
use Rattle.std.proofs.Common.{sym, ap, ap₂, ◌∙◌, arith, length-append, drop-drop, take-add, le-leb, leb-true, eqb-true}
use Rattle.std.proofs.lemmas.List.{length-replicate}
use Rattle.words.specs.Choice.{pick, both}
use Rattle.words.specs.ChoiceLaws.{both_true}
use Rattle.words.specs.Parts.{region}
use Rattle.words.specs.PartsLaws.{region-length}
use Rattle.roundtrip.specs.Stands.{stands_left, stands_right}
use Rattle.messages.specs.Form.{parsed, faulty, zeros, padded_at}
use Rattle.messagelaws.specs.Codec.{Reads}
use Rattle.messagelaws.specs.Sound.{Sound, taken, refused}

zeros-replicate : (n : ℕ) → zeros (replicate n 0) ≡ true
unfolding zeros
zeros-replicate zero = refl
zeros-replicate (suc n) = zeros-replicate n

zeros-are : (l : List ℕ) → zeros l ≡ true → l ≡ replicate (length l) 0
unfolding zeros
zeros-are [] h = refl
zeros-are (b ∷ l) h =
    let t = both_true (eqb b 0) (zeros l) h in
    ap₂ (λ (x : ℕ) (y : List ℕ). x ∷ y) (eqb-true b 0 t.0) (zeros-are l t.1)

module _ (pad : ℕ) (fits : List ℕ → Bool) where
  pub padded_reads : (x : List ℕ) → fits x ≡ true → Reads (λ s at. padded_at (length x) pad fits s at) x (x ++ replicate pad 0)
  padded_reads x t = record {
    found = λ s at h.
        let size : length (x ++ replicate pad 0) ≡ length x + pad = length-append x (replicate pad 0) ∙ ap (λ (k : ℕ). length x + k) (length-replicate pad 0) in
        let inside : at + (length x + pad) ≤ length s = omega (arith, h.fits) in
        let left : region at (length x) s ≡ x = (stands_left s at x (replicate pad 0) h).there in
        let right : region (at + length x) pad s ≡ replicate pad 0 = rw length-replicate at (stands_right s at x (replicate pad 0) h).there in
        rw (le-leb (at + (length x + pad)) (length s) inside, left, right, t, zeros-replicate pad, size);
  }

  pub padded_sound : (n : ℕ) (s : List ℕ) (at : ℕ) → at ≤ length s
      → Sound s at (λ x. x ++ replicate pad 0) (λ x. (length x ≡ n) × (fits x ≡ true)) (padded_at n pad fits s at)
  padded_sound n s at h = by (leb (at + (n + pad)) (length s)) refl (both (fits (region at n s)) (zeros (region (at + n) pad s))) refl
    where
      by : (a : Bool) → leb (at + (n + pad)) (length s) ≡ a → (b : Bool) → both (fits (region at n s)) (zeros (region (at + n) pad s)) ≡ b
          → Sound s at (λ x. x ++ replicate pad 0) (λ x. (length x ≡ n) × (fits x ≡ true))
          (pick a (pick b (parsed (region at n s) (at + (n + pad))) faulty) faulty)
      by true e true f =
          let inside : at + (n + pad) ≤ length s = leb-true (at + (n + pad)) (length s) e in
          let t = both_true (fits (region at n s)) (zeros (region (at + n) pad s)) f in
          let sum : at + (n + pad) - at ≡ n + pad = omega arith in
          let size : length (region (at + n) pad s) ≡ pad = region-length (at + n) pad s (omega arith) in
          let rest : region (at + n) pad s ≡ replicate pad 0 = zeros-are (region (at + n) pad s) t.1 ∙ ap (λ (k : ℕ). replicate k 0) size in
          taken (region at n s) (at + (n + pad)) (record {
            forward = omega arith;
            inside = inside;
            fact = λ b. (
              ap (λ (l : List ℕ). region at n s ++ l) (sym rest ∙ ap (λ (l : List ℕ). take pad l) (sym (drop-drop n at s)))
                  ∙ sym (take-add n pad (drop at s))
                  ∙ ap (λ (k : ℕ). take k (drop at s)) (sym sum),
              (region-length at n s (omega arith), t.0),
            );
          })
      by true e false f = refused
      by false e b f = refused
