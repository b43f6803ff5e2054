-- Laws of values: an integer is the equal float, and the cases that the code makes.
use Prim.Native.Nat.{ℕ, zero, suc, ◌+◌, ◌-◌, ◌*◌, ◌/◌, ◌%◌, ◌^◌, ◌<◌, ◌≤◌, compare}
use Rattle.std.specs.Prelude.{Bool, true, false, not, cond, ◌≡◌, refl, T, ltb, pos, negsuc, Float, Some, None}
use Rattle.std.proofs.Common.{arith, add-one, ltb-true, ltb-false, le-leb, le→leb}
use Rattle.std.proofs.lemmas.Bool.{lt-leb}
use Rattle.std.specs.Float.{nan, inf, fin, Format, binary32}
use Rattle.std.specs.Float.Ieee.{low, prec, emax, is_nan, neg, odd, units, nearest, size, round, of_int, in_float}
use Rattle.std.specs.Float.Ieee.Exact.{HasValue}
use Rattle.std.specs.Float.Ieee.Back.{round_whole}
use Rattle.std.specs.Float.Ieee.Bits.{to_bits-lt}
use Rattle.std.specs.Float.Ieee.Fits.{of_int-fits}
use Rattle.words.specs.Choice.{pick}
use Rattle.values.specs.Targets.{signed}
use Rattle.values.specs.TargetsLaws.{signed_low, signed_high}
use Rattle.values.specs.Values.{equal_float, in_bounds, pattern, pattern_of}
use Rattle.values.specs.declared.Value.{Value}
use Rattle.values.specs.declared.Value.TheVariants.{Integer}
use Rattle.values.specs.declared.Value.TheVariants as value

-- "the equal float": it has the integer's sign and is its magnitude in size
pub equal_positive : (n : ℕ) → n ≤ 16777216 → HasValue (of_int binary32 (pos n)) false n 1
unfolding of_int
equal_positive n h = round_whole binary32 false n h

pub equal_negative : (n : ℕ) → n < 16777216 → HasValue (of_int binary32 (negsuc n)) true (suc n) 1
unfolding of_int
equal_negative n h = round_whole binary32 true (suc n) h

pub integer_fits : (p : ℕ) → pattern (Integer p) < 4294967296
unfolding pattern
integer_fits p = to_bits-lt binary32 (of_int binary32 (signed p)) (of_int-fits binary32 (signed p))

pub in-float : (n : ℕ) → n ≤ 16777216 → T (in_float binary32 (pos n))
unfolding in_float
in-float n h = le→leb n 16777216 h

value_no_nan : (x : Float) (s : Bool) (n : ℕ) → HasValue x s n 1 → T (not (is_nan x))
unfolding is_nan
value_no_nan nan s n v = v
value_no_nan (inf t) s n v = tt
value_no_nan (fin t m e) s n v = tt

pub positive_no_nan : (n : ℕ) → n ≤ 16777216 → T (not (is_nan (of_int binary32 (pos n))))
positive_no_nan n h = value_no_nan (of_int binary32 (pos n)) false n (equal_positive n h)

pub negative_no_nan : (n : ℕ) → n < 16777216 → T (not (is_nan (of_int binary32 (negsuc n))))
negative_no_nan n h = value_no_nan (of_int binary32 (negsuc n)) true (suc n) (equal_negative n h)

-- rounding keeps the sign
neg_odd : (d : ℕ) (s : Bool) (q k l : ℕ) → neg (odd d s q k l) ≡ odd d (not s) q k l
unfolding neg odd
neg_odd d s zero k l = refl
neg_odd d s (suc q) k l = refl

neg_cond : (b s : Bool) (x y : Float) → neg x ≡ y → neg (cond b x (inf s)) ≡ cond b y (inf (not s))
unfolding neg
neg_cond true s x y h = h
neg_cond false s x y h = refl

neg_units : (f : Format) (s : Bool) (q k : ℕ) → neg (units f s q k) ≡ units f (not s) q k
unfolding units
neg_units f s q k =
    neg_cond (ltb (q * 2 ^ k) (2 ^ (low f + suc (emax f)))) s (odd (suc (prec f)) s q k (low f)) (odd (suc (prec f)) (not s) q k (low f))
    (neg_odd (suc (prec f)) s q k (low f))

neg_round : (f : Format) (s : Bool) (n d : ℕ) → neg (round f s n d) ≡ round f (not s) n d
unfolding round
neg_round f s n d =
    let m = n * 2 ^ low f in
    let k = size (m / d) - prec f in
    let u = d * 2 ^ k in
    neg_units f s (nearest (m / u) (compare (m % u * 2) u)) k

pub negated : (n : ℕ) → neg (of_int binary32 (pos (n + 1))) ≡ of_int binary32 (negsuc n)
unfolding of_int
negated n = rw (add-one n) (neg_round binary32 false (suc n) 1)

-- ---- the code's three cases

pub float_pattern : (p : ℕ) → pattern_of (value.Float p) ≡ Some p
unfolding pattern_of in_bounds pattern
float_pattern p = refl

pub small_integer : (p : ℕ) → p ≤ 16777216 → pattern_of (Integer p) ≡ Some (equal_float (pos p))
unfolding pattern_of in_bounds pattern
small_integer p h = rw (signed_low p (omega arith), le-leb p 16777216 h)

pub small_negative : (p k : ℕ) → 4278190080 ≤ p → 4294967295 - p ≡ k → pattern_of (Integer p) ≡ Some (equal_float (negsuc k))
unfolding pattern_of in_bounds pattern
small_negative p k h e = rw (signed_high p k (omega arith) e, le-leb k 16777215 (omega arith))

pub large_integer : (p : ℕ) → 16777216 < p → p < 4278190080 → pattern_of (Integer p) ≡ None
unfolding pattern_of in_bounds
large_integer p h l = go (ltb p 2147483648) refl
  where
    go : (b : Bool) → ltb p 2147483648 ≡ b → pattern_of (Integer p) ≡ None
    go true e = rw (signed_low p (ltb-true p 2147483648 e), lt-leb p 16777216 h)
    go false e = rw (signed_high p (4294967295 - p) (ltb-false p 2147483648 e) refl, lt-leb (4294967295 - p) 16777215 (omega arith))

-- ---- what the answer tells

picked : (b : Bool) (x : ℕ) (p : ℕ) → pick b (Some x) None ≡ Some p → (b ≡ true) × (x ≡ p)
picked true x p h = (refl, (cc))
picked false x p h = ((cc), (cc))

pub pattern_fact : (v : Value) (p : ℕ) → pattern_of v ≡ Some p → (in_bounds v ≡ true) × (pattern v ≡ p)
unfolding pattern_of
pattern_fact v p h = picked (in_bounds v) (pattern v) p h

refused : (b : Bool) (x : ℕ) → pick b (Some x) None ≡ None → b ≡ false
refused true x h = (cc)
refused false x h = refl

pub bounds_fact : (v : Value) → pattern_of v ≡ None → in_bounds v ≡ false
unfolding pattern_of
bounds_fact v h = refused (in_bounds v) (pattern v) h
