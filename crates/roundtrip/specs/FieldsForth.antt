-- The fields of a file: what is taken is the writing of what is given.
use Rattle.std.specs.Prelude.{ℕ, suc, ◌+◌, ◌-◌, ◌/◌, ◌%◌, ◌≤◌, ◌<◌, ◌≡◌, refl, Bool, true, false, List, [], ◌∷◌, length, get_or, ltb, leb}
use Rattle.std.proofs.Common.{sym, ◌∙◌, add-one, arith, drop-cons, lt-ltb, le-leb, leb-true, leb-false, ltb-true}
use Rattle.words.specs.Choice.{pick, both}
use Rattle.words.specs.ChoiceLaws.{both_true}
use Rattle.words.specs.Parts.{region}
use Rattle.words.specs.PartsLaws.{region-length}
use Rattle.faults.specs.declared.Fault.TheVariants.{Truncated, BadCount, BadName, BadRate, BadIndex}
use Rattle.format.specs.declared.Width.{Width}
use Rattle.format.specs.declared.Width.TheVariants.{Short, Long}
use Rattle.format.specs.Read.{got, bad}
use Rattle.format.specs.Fields.{whole, int8, int16, int32, float32, name_bytes, string_at, pstring, name, definition_name, highest_rate, highest16, highest32, extended, integer_by, highest_of, count_to_by, short_count_to, rate, index_below_by}
use Rattle.words.specs.Bytes.{AreBytes, bytes8, bytes16, bytes32}
use Rattle.format.specs.Writer.{write_integer, write_name}
use Rattle.format.specs.Bounds.{is_name, is_float, is_rate}
use Rattle.roundtrip.specs.BigEndian.{two, four, bytes_of_two, bytes_of_four}
use Rattle.roundtrip.specs.Sound.{Sound, taken, refused, Forth, weaken, checked_sound}

-- one more byte of a part
region-cons : (s : List ℕ) (at next k : ℕ) → next ≡ at + 1 → at < length s → region at (suc k) s ≡ get_or s at 0 ∷ region next k s
region-cons s at next k e h = rw (e, add-one, drop-cons s at 0)

module _ {A : Type 0} where
  whole_sound : (size : ℕ) (s : List ℕ) (at : ℕ) (value : A) (write : A → List ℕ) (Q : A → Type 0) → at ≤ length s
      → (at + size ≤ length s → AreBytes s → (write value ≡ region at size s) × Q value)
      → Sound s at write Q (whole size s at value)
  whole_sound size s at value write Q h f = by (leb (at + size) (length s)) refl
    where
      by : (b : Bool) → leb (at + size) (length s) ≡ b → Sound s at write Q (pick b (got value (at + size)) (bad Truncated at))
      by true e =
          let fits : at + size ≤ length s = leb-true (at + size) (length s) e in
          let same : at + size - at ≡ size = omega arith in
          taken value (at + size) (record { forward = omega arith; inside = fits; fact = λ b. rw same (f fits b) })
      by false e = refused Truncated at h

pub int8_sound : Forth int8 bytes8 (λ n. n < 256)
int8_sound s at h =
    whole_sound 1 s at (get_or s at 0) bytes8 (λ n. n < 256) h
    (λ fits b. (sym (region-cons s at (at + 1) 0 refl (omega arith)), b at))

pub int16_sound : Forth int16 bytes16 (λ n. n < 65536)
int16_sound s at h =
    let b0 = get_or s at 0 in
    let b1 = get_or s (at + 1) 0 in
    whole_sound 2 s at (two b0 b1) bytes16 (λ n. n < 65536) h
    (λ fits b.
    let cells : region at 2 s ≡ b0 ∷ (b1 ∷ []) = rw (region-cons s at (at + 1) 1 refl (omega arith), region-cons s (at + 1) (at + 2) 0 (omega arith) (omega arith)) in
    (bytes_of_two b0 b1 (b at) (b (at + 1)) ∙ sym cells, omega (arith, b at, b (at + 1))))

pub int32_sound : Forth int32 bytes32 (λ n. n < 4294967296)
int32_sound s at h =
    let b0 = get_or s at 0 in
    let b1 = get_or s (at + 1) 0 in
    let b2 = get_or s (at + 2) 0 in
    let b3 = get_or s (at + 3) 0 in
    whole_sound 4 s at (four b0 b1 b2 b3) bytes32 (λ n. n < 4294967296) h
    (λ fits b.
    let cells : region at 4 s ≡ b0 ∷ (b1 ∷ (b2 ∷ (b3 ∷ []))) =
    rw (region-cons s at (at + 1) 3 refl (omega arith), region-cons s (at + 1) (at + 2) 2 (omega arith) (omega arith), region-cons s (at + 2) (at + 3) 1 (omega arith) (omega arith), region-cons s (at + 3) (at + 4) 0 (omega arith) (omega arith)) in
    (bytes_of_four b0 b1 b2 b3 (b at) (b (at + 1)) (b (at + 2)) (b (at + 3)) ∙ sym cells, omega (arith, b at, b (at + 1), b (at + 2), b (at + 3))))

pub float_sound : Forth float32 bytes32 (λ x. is_float x ≡ true)
float_sound s at h = weaken (int32_sound s at h) (λ x q. lt-ltb x 4294967296 q)

pub pstring_sound : Forth pstring write_name (λ n. length n ≤ 255)
pstring_sound s at h = by (ltb at (length s)) refl
  where
    by : (b : Bool) → ltb at (length s) ≡ b → Sound s at write_name (λ n. length n ≤ 255) (pick b (whole (1 + get_or s at 0) s at (string_at s at)) (bad Truncated at))
    by true e =
        whole_sound (1 + get_or s at 0) s at (string_at s at) write_name (λ n. length n ≤ 255) h
        (λ fits b.
        let size : length (string_at s at) ≡ get_or s at 0 = region-length (at + 1) (get_or s at 0) s (omega arith) in
        let one : 1 + get_or s at 0 ≡ suc (get_or s at 0) = omega arith in
        (rw (one, region-cons s at (at + 1) (get_or s at 0) refl (ltb-true at (length s) e), size), omega (arith, b at)))
    by false e = refused Truncated at h

pub name_sound : Forth name write_name (λ n. is_name n ≡ true)
name_sound s at h =
    weaken (checked_sound BadName name_bytes h (pstring_sound s at h)) (λ n q. rw (le-leb (length n) 255 q.0) q.1)

pub definition_name_sound : Forth definition_name write_name (λ n. both (ltb 0 (length n)) (is_name n) ≡ true)
definition_name_sound s at h =
    weaken (checked_sound BadName (λ n. both (ltb 0 (length n)) (name_bytes n)) h (pstring_sound s at h)) (λ n q.
    let t = both_true (ltb 0 (length n)) (name_bytes n) q.1 in
    rw (t.0, le-leb (length n) 255 q.0) t.1)

-- a count or an index: its pattern, which fits the field where it is not negative
pub record Fits (w : Width) (n : ℕ) : Type 0 where
  pub pattern : n < 4294967296
  pub short : n ≤ highest32 → n ≤ highest_of w

extended_fits : (n : ℕ) → n < 65536 → (bytes16 (extended n) ≡ bytes16 n) × Fits Short (extended n)
extended_fits n h = by (leb n highest16) refl
  where
    by : (b : Bool) → leb n highest16 ≡ b → (bytes16 (pick b n (n + 4294901760)) ≡ bytes16 n) × Fits Short (pick b n (n + 4294901760))
    by true e = (refl, record { pattern = omega arith; short = λ l. leb-true n highest16 e })
    by false e =
        let high : (n + 4294901760) / 256 % 256 ≡ n / 256 % 256 = omega arith in
        let low : (n + 4294901760) % 256 ≡ n % 256 = omega arith in
        (rw (high, low), record { pattern = omega arith; short = λ l. absurd (omega (arith, leb-false n highest16 e)) })

pub integer_sound : (w : Width) → Forth (integer_by w) (write_integer w) (Fits w)
integer_sound Short s at h =
    let b0 = get_or s at 0 in
    let b1 = get_or s (at + 1) 0 in
    whole_sound 2 s at (extended (two b0 b1)) bytes16 (Fits Short) h
    (λ fits b.
    let cells : region at 2 s ≡ b0 ∷ (b1 ∷ []) = rw (region-cons s at (at + 1) 1 refl (omega arith), region-cons s (at + 1) (at + 2) 0 (omega arith) (omega arith)) in
    let e = extended_fits (two b0 b1) (omega (arith, b at, b (at + 1))) in
    (e.0 ∙ bytes_of_two b0 b1 (b at) (b (at + 1)) ∙ sym cells, e.1))
integer_sound Long s at h = weaken (int32_sound s at h) (λ n q. record { pattern = q; short = λ l. l })

-- a count of at most so many fits its field
pub count_sound : (w : Width) (most : ℕ) → most ≤ highest32 → Forth (count_to_by w most) (write_integer w) (λ n. (leb n most ≡ true) × (n ≤ highest_of w))
count_sound w most l s at h = weaken (checked_sound BadCount (λ n. leb n most) h (integer_sound w s at h)) (λ n q. (q.1, q.0.short (omega (arith, leb-true n most q.1))))

pub short_count_sound : (most : ℕ) → Forth (short_count_to most) bytes16 (λ n. leb n most ≡ true)
short_count_sound most s at h = weaken (checked_sound BadCount (λ n. leb n most) h (int16_sound s at h)) (λ n q. q.1)

pub index_sound : (w : Width) (bound : ℕ) → Forth (index_below_by w bound) (write_integer w) (λ i. ltb i bound ≡ true)
index_sound w bound s at h = weaken (checked_sound BadIndex (λ i. ltb i bound) h (integer_sound w s at h)) (λ i q. q.1)

pub rate_sound : Forth rate bytes8 (λ r. is_rate r ≡ true)
rate_sound s at h = weaken (checked_sound BadRate (λ r. leb r highest_rate) h (int8_sound s at h)) (λ r q. q.1)
