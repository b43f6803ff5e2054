-- Laws of values that are read one after the other.
use Prim.{tt}
use Prim.Native.Nat.{ℕ, zero, suc, ◌+◌, ◌*◌, ◌-◌, ◌≤◌, ◌<◌}
use Rattle.std.specs.Prelude.{◌≡◌, refl, List, ◌∷◌, length, get_or}
use Rattle.std.proofs.Common.{sym, ap, ◌∙◌, add-zero, le-leb}
use native.Mathlib.Omega.{arith}
use Rattle.std.proofs.lemmas.Bool.{lt-leb}
use Rattle.faults.specs.declared.Fault.TheVariants.{Truncated}
use Rattle.format.specs.Read.{Read, got, bad, and_then, repeat, ending}
use Rattle.format.specs.Fields.{word, float32}
use Rattle.format.specs.FieldLaws.{whole_got}

module _ {A : Type 0} where
  pub got_value : {x y : A} {p q : ℕ} → got x p ≡ got y q → x ≡ y
  got_value e = cc

  pub got_place : {x y : A} {p q : ℕ} → got x p ≡ got y q → p ≡ q
  got_place e = cc

module _ {A B : Type 0} where
  -- a reading that went on to its end, for whatever follows from what its first part got and from the rest
  pub went_on : {D : Type 0} (r : Read A) (f : A → ℕ → Read B) {y : B} {end : ℕ} → and_then r f ≡ got y end
      → ((x : A) (p : ℕ) → r ≡ got x p → f x p ≡ got y end → D) → D
  went_on (got x p) f e k = k x p refl e
  went_on (bad q place) f e k = let z : ◌≡◌ {A = ℕ} 0 1 = cc in absurd (omega arith)

module _ {A : Type 0} (read : ℕ → Read A) where
  ending_more : (x : A) (r : Read (List A)) → ending (and_then r (λ xs end. got (x ∷ xs) end)) ≡ ending r
  ending_more x (got xs end) = refl
  ending_more x (bad q place) = refl

  ending_first : (r : Read A) (n : ℕ)
      → ending (and_then r (λ x next. and_then (repeat read n next) (λ xs end. got (x ∷ xs) end))) ≡ and_then r (λ x next. ending (repeat read n next))
  ending_first (got x next) n = ending_more x (repeat read n next)
  ending_first (bad q place) n = refl

  -- one value more
  pub ending-suc : (n at : ℕ) → ending (repeat read (suc n) at) ≡ and_then (read at) (λ x next. ending (repeat read n next))
  unfolding repeat
  ending-suc n at = ending_first (read at) n

  -- one value more, at a count that is not used up
  pub ending_turn : (n i at : ℕ) → i < n → ending (repeat read (n - i) at) ≡ and_then (read at) (λ x next. ending (repeat read (n - (i + 1)) next))
  ending_turn n i at h =
      let e : n - i ≡ suc (n - (i + 1)) = omega arith in
      rw e (ending-suc (n - (i + 1)) at)

  -- and none
  pub ending_none : (n i at : ℕ) → n ≤ i → ending (repeat read (n - i) at) ≡ got tt at
  unfolding repeat
  ending_none n i at h = let e : n - i ≡ 0 = omega arith in rw e

  -- as many values are read as were asked for
  pub repeat-length : (n at : ℕ) {xs : List A} {end : ℕ} → repeat read n at ≡ got xs end → length xs ≡ n
  unfolding repeat
  repeat-length zero at e = rw (sym (got_value e))
  repeat-length (suc n) at e =
      went_on (read at) _ e (λ x p1 e1 r1.
      went_on (repeat read n p1) _ r1 (λ xs p2 e2 r2.
      rw (sym (got_value r2), repeat-length n p1 e2)))

-- floats that are all there
pub floats_whole : (s : List ℕ) (n at : ℕ) → at + 4 * n ≤ length s → ending (repeat (float32 s) n at) ≡ got tt (at + 4 * n)
unfolding repeat
floats_whole s zero at h = rw add-zero
floats_whole s (suc n) at h =
    let first : at + 4 ≤ length s = omega arith in
    let end : at + 4 + 4 * n ≡ at + 4 * suc n = omega arith in
    ending-suc (float32 s) n at ∙ rw (le-leb (at + 4) (length s) first, floats_whole s n (at + 4) (omega arith), end)

-- a float that is cut
pub float_cut : (s : List ℕ) (n at : ℕ) → 0 < n → length s < at + 4 → ending (repeat (float32 s) n at) ≡ bad Truncated at
float_cut s zero at p h = let z : ◌≡◌ {A = ℕ} 0 1 = omega arith in cc
float_cut s (suc n) at p h = ending-suc (float32 s) n at ∙ rw (lt-leb (at + 4) (length s) h)

-- floats of which the first k are there
pub floats_cut : (s : List ℕ) (k n at : ℕ) → k < n → at + 4 * k ≤ length s → length s < at + 4 * k + 4
    → ending (repeat (float32 s) n at) ≡ bad Truncated (at + 4 * k)
floats_cut s zero n at m h l = rw add-zero (float_cut s n at (omega arith) (omega arith))
floats_cut s (suc k) zero at m h l = let z : ◌≡◌ {A = ℕ} 0 1 = omega arith in cc
floats_cut s (suc k) (suc n) at m h l =
    let first : at + 4 ≤ length s = omega arith in
    let end : at + 4 + 4 * k ≡ at + 4 * suc k = omega arith in
    ending-suc (float32 s) n at ∙ rw (le-leb (at + 4) (length s) first, floats_cut s k n (at + 4) (omega arith) (omega arith) (omega arith), end)

-- where floats end that were read
pub floats_end : (s : List ℕ) (n at : ℕ) {xs : List ℕ} {end : ℕ} → repeat (float32 s) n at ≡ got xs end → end ≡ at + 4 * n
unfolding repeat
floats_end s zero at e = rw (sym (got_place e), add-zero)
floats_end s (suc n) at e =
    went_on (float32 s at) _ e (λ x p1 e1 r1.
    went_on (repeat (float32 s) n p1) _ r1 (λ xs p2 e2 r2.
    omega (arith, floats_end s n p1 e2, (whole_got 4 s at (word s at) e1).1.1, got_place r2)))

float_more : (s : List ℕ) (at next i x : ℕ) {ys xs : List ℕ} → x ∷ ys ≡ xs → at + 4 ≡ next
    → float32 s (next + 4 * i) ≡ got (get_or ys i 0) (next + 4 * i + 4)
    → float32 s (at + 4 * suc i) ≡ got (get_or xs (suc i) 0) (at + 4 * suc i + 4)
float_more s at next i x e p h = let q : at + 4 * suc i ≡ next + 4 * i = omega arith in rw (q, sym e) h

float_first : (s : List ℕ) (at next x : ℕ) {ys xs : List ℕ} → x ∷ ys ≡ xs → at + 4 ≡ next → float32 s at ≡ got x next
    → float32 s (at + 4 * 0) ≡ got (get_or xs 0 0) (at + 4 * 0 + 4)
float_first s at next x e p h = rw (add-zero, sym e) (h ∙ ap (λ q. got x q) (sym p))

-- each of them
pub floats_at : (s : List ℕ) (n at i : ℕ) {xs : List ℕ} {end : ℕ} → repeat (float32 s) n at ≡ got xs end → i < n
    → float32 s (at + 4 * i) ≡ got (get_or xs i 0) (at + 4 * i + 4)
unfolding repeat
floats_at s zero at i e h = let z : ◌≡◌ {A = ℕ} 0 1 = omega arith in cc
floats_at s (suc n) at zero e h =
    went_on (float32 s at) _ e (λ x p1 e1 r1.
    went_on (repeat (float32 s) n p1) _ r1 (λ xs p2 e2 r2.
    float_first s at p1 x (got_value r2) (whole_got 4 s at (word s at) e1).1.1 e1))
floats_at s (suc n) at (suc i) e h =
    went_on (float32 s at) _ e (λ x p1 e1 r1.
    went_on (repeat (float32 s) n p1) _ r1 (λ xs p2 e2 r2.
    float_more s at p1 i x (got_value r2) (whole_got 4 s at (word s at) e1).1.1 (floats_at s n p1 i e2 (omega arith))))
