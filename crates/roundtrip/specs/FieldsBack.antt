-- The fields of a file, read back from their writing.
use Rattle.std.specs.Prelude.{ℕ, suc, ◌+◌, ◌≤◌, ◌<◌, ◌≡◌, true, List, [], ◌∷◌, length, get_or, ltb, leb}
use Rattle.std.proofs.Common.{ap, ◌∙◌, add-zero, arith, lt-ltb, le-leb, leb-true, ltb-true}
use Rattle.words.specs.Choice.{both}
use Rattle.words.specs.ChoiceLaws.{both_true}
use Rattle.faults.specs.declared.Fault.TheVariants.{BadCount, BadName, BadRate, BadIndex}
use Rattle.format.specs.declared.Width.{Width}
use Rattle.format.specs.declared.Width.TheVariants.{Short, Long}
use Rattle.format.specs.Read.{got}
use Rattle.words.specs.Patterns.{minus_one}
use Rattle.format.specs.Fields.{whole, int8, int16, int32, float32, name_bytes, pstring, name, definition_name, highest_rate, highest16, integer_by, highest_of, count_to_by, short_count_to, rate, index_below_by}
use Rattle.words.specs.Bytes.{bytes8, bytes16, bytes32}
use Rattle.format.specs.Writer.{write_integer, write_name}
use Rattle.format.specs.Bounds.{is_name, is_float, is_rate}
use Rattle.roundtrip.specs.Stands.{Stands, stands_right, stands_get_d}
use Rattle.roundtrip.specs.BigEndian.{two_of_bytes, four_of_bytes}
use Rattle.roundtrip.specs.Codec.{Reads, Back, checked_reads}

whole_got : {A : Type 0} (size : ℕ) (s : List ℕ) (at : ℕ) (value : A) → at + size ≤ length s → whole size s at value ≡ got value (at + size)
whole_got size s at value h = rw (le-leb (at + size) (length s) h)

-- the first byte
head_is : (s : List ℕ) (at b : ℕ) (w : List ℕ) → Stands s at (b ∷ w) → get_or s at 0 ≡ b
head_is s at b w h = let first : 0 < length (b ∷ w) = omega arith in rw add-zero at (stands_get_d s at (b ∷ w) h 0 first)

pub int8_reads : (n : ℕ) → Reads int8 n (bytes8 n)
int8_reads n = record { found = λ s at h. rw (head_is s at n [] h) (whole_got 1 s at n h.fits) }

pub int16_reads : (n : ℕ) → n < 65536 → Reads int16 n (bytes16 n)
int16_reads n small = record {
  found = λ s at h.
      rw (head_is s at _ _ h, stands_get_d s at (bytes16 n) h 1 (omega arith), two_of_bytes n small) (whole_got 2 s at n h.fits);
}

pub int32_reads : (n : ℕ) → n < 4294967296 → Reads int32 n (bytes32 n)
int32_reads n small = record {
  found = λ s at h.
      rw (head_is s at _ _ h, stands_get_d s at (bytes32 n) h 1 (omega arith), stands_get_d s at (bytes32 n) h 2 (omega arith), stands_get_d s at (bytes32 n) h 3 (omega arith), four_of_bytes n small)
      (whole_got 4 s at n h.fits);
}

pub float_reads : Back float32 bytes32 is_float
float_reads x t = int32_reads x (ltb-true x 4294967296 t)

pub pstring_reads : (n : List ℕ) → Reads pstring n (write_name n)
pstring_reads n = record {
  found = λ s at h.
      let inside : at < length s = omega (arith, h.fits) in
      let size : at + (1 + length n) ≡ at + suc (length n) = omega arith in
      rw (lt-ltb at (length s) inside, head_is s at (length n) n h, (stands_right s at (length n ∷ []) n h).there)
      (whole_got (1 + length n) s at n (omega (arith, h.fits)) ∙ ap (λ (e : ℕ). got n e) size);
}

pub name_reads : Back name write_name is_name
name_reads n t = checked_reads BadName name_bytes (pstring_reads n) (both_true (leb (length n) 255) (name_bytes n) t).1

pub definition_name_reads : Back definition_name write_name (λ n. both (ltb 0 (length n)) (is_name n))
definition_name_reads n t =
    let u = both_true (ltb 0 (length n)) (is_name n) t in
    checked_reads BadName (λ m. both (ltb 0 (length m)) (name_bytes m)) (pstring_reads n) (rw u.0 (both_true (leb (length n) 255) (name_bytes n) u.1).1)

-- a number that is not negative, and -1
pub integer_reads : (w : Width) (n : ℕ) → n ≤ highest_of w → Reads (integer_by w) n (write_integer w n)
integer_reads Short n h = record {
  found = λ s at e.
      rw (head_is s at _ _ e, stands_get_d s at (bytes16 n) e 1 (omega arith), two_of_bytes n (omega arith), le-leb n highest16 h) (whole_got 2 s at n e.fits);
}
integer_reads Long n h = int32_reads n (omega arith)

pub minus_one_reads : (w : Width) → Reads (integer_by w) minus_one (write_integer w minus_one)
minus_one_reads Short = record {
  found = λ s at e.
      rw (head_is s at _ _ e, stands_get_d s at (bytes16 minus_one) e 1 (omega arith)) (whole_got 2 s at minus_one e.fits);
}
minus_one_reads Long = int32_reads minus_one (omega arith)

-- a count that fits its field
pub count_reads : (w : Width) (most n : ℕ) → leb n most ≡ true → n ≤ highest_of w → Reads (count_to_by w most) n (write_integer w n)
count_reads w most n t h = checked_reads BadCount (λ n. leb n most) (integer_reads w n h) t

pub short_count_reads : (most : ℕ) → most < 65536 → Back (short_count_to most) bytes16 (λ n. leb n most)
short_count_reads most h n t = let small = leb-true n most t in checked_reads BadCount (λ n. leb n most) (int16_reads n (omega arith)) t

pub index_reads : (w : Width) (bound : ℕ) → bound ≤ highest_of w → Back (index_below_by w bound) (write_integer w) (λ i. ltb i bound)
index_reads w bound h i t = let small = ltb-true i bound t in checked_reads BadIndex (λ i. ltb i bound) (integer_reads w i (omega arith)) t

pub rate_reads : Back rate bytes8 is_rate
rate_reads r t = checked_reads BadRate (λ r. leb r highest_rate) (int8_reads r) t
