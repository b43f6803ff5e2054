-- Laws of fields: what a field that was read tells.
use Rattle.std.specs.Prelude.{ℕ, ◌+◌, ◌-◌, ◌≤◌, Bool, true, false, ◌≡◌, refl, List, length, get_or, leb, ltb}
use Rattle.std.proofs.Common.{sym, arith, leb-true}
use Rattle.words.specs.Choice.{pick}
use Rattle.words.specs.Parts.{region}
use Rattle.words.specs.PartsLaws.{region-length}
use Rattle.faults.specs.declared.Fault.{Fault}
use Rattle.faults.specs.declared.Fault.TheVariants.{Truncated, BadName, BadCount}
use Rattle.format.specs.NameLaws.{full}
use Rattle.format.specs.Read.{Read, got, bad, checked}
use Rattle.format.specs.declared.Width.{Width}
use Rattle.format.specs.Fields.{whole, pstring, string_at, definition_name, size_of, value_by, integer_by, count_to_by}

module _ {A : Type 0} where
  -- a choice that was read is its first way
  pub picked : (b : Bool) (way : Read A) (r : Fault) (at : ℕ) {x : A} {next : ℕ}
      → pick b way (bad r at) ≡ got x next → (b ≡ true) × (way ≡ got x next)
  picked true way r at e = (refl, e)
  picked false way r at e = ((cc), (cc))

  -- a field that was read was whole
  pub whole_got : (size : ℕ) (s : List ℕ) (at : ℕ) (value : A) {x : A} {next : ℕ}
      → whole size s at value ≡ got x next → (at + size ≤ length s) × ((value ≡ x) × (at + size ≡ next))
  whole_got size s at value {x} {next} e =
      let p = picked (leb (at + size) (length s)) (got value (at + size)) Truncated at e in
      let v : value ≡ x = cc in
      let n : at + size ≡ next = cc in
      (leb-true (at + size) (length s) p.0, (v, n))

  -- a checked value passed its test
  pub checked_got : (r : Fault) (test : A → Bool) (at : ℕ) (read : Read A) {x : A} {next : ℕ}
      → checked r test at read ≡ got x next → (read ≡ got x next) × (test x ≡ true)
  checked_got r test at (got y p) {x} {next} e =
      let t = picked (test y) (got y p) r at e in
      let v : y ≡ x = cc in
      (t.1, rw (sym v) t.0)
  checked_got r test at (bad q place) e = ((cc), (cc))

-- a pstring that was read: its end, and its bytes
pub pstring_got : (s : List ℕ) (at : ℕ) {x : List ℕ} {next : ℕ}
    → pstring s at ≡ got x next → (next ≤ length s) × ((x ≡ string_at s at) × (next ≡ at + (1 + length x)))
pstring_got s at {x} {next} e =
    let size = 1 + get_or s at 0 in
    let w = whole_got size s at (string_at s at) (picked (ltb at (length s)) (whole size s at (string_at s at)) Truncated at e).1 in
    let l : length (string_at s at) ≡ get_or s at 0 = region-length (at + 1) (get_or s at 0) s (omega arith) in
    let v : x ≡ string_at s at = sym w.1.0 in
    (omega arith, (v, rw v (omega arith)))

-- and its bytes as a part up to that end
pub pstring_part : (s : List ℕ) (at : ℕ) {x : List ℕ} {next : ℕ} → pstring s at ≡ got x next → x ≡ region (at + 1) (next - (at + 1)) s
pstring_part s at {x} {next} e =
    let size = 1 + get_or s at 0 in
    let w = whole_got size s at (string_at s at) (picked (ltb at (length s)) (whole size s at (string_at s at)) Truncated at e).1 in
    let k : next - (at + 1) ≡ get_or s at 0 = omega arith in
    rw k (sym w.1.0)

pub pstring_end : (s : List ℕ) (at : ℕ) {x : List ℕ} {next : ℕ} → pstring s at ≡ got x next → next ≤ length s
pstring_end s at e = (pstring_got s at e).0

-- where a definition's name ends
pub name_length : (s : List ℕ) (at : ℕ) {x : List ℕ} {next : ℕ} → definition_name s at ≡ got x next → next ≡ at + (1 + length x)
name_length s at e = (pstring_got s at (checked_got BadName full at (pstring s at) e).0).1.1

-- a definition's name as a part of the file
pub name_part : (s : List ℕ) (at : ℕ) {x : List ℕ} {next : ℕ} → definition_name s at ≡ got x next → x ≡ region (at + 1) (next - (at + 1)) s
name_part s at e = pstring_part s at (checked_got BadName full at (pstring s at) e).0

-- where a count ends
pub count_end : (w : Width) (most : ℕ) (s : List ℕ) (at : ℕ) {n next : ℕ} → count_to_by w most s at ≡ got n next → next ≡ at + size_of w
count_end w most s at e = sym (whole_got (size_of w) s at (value_by w s at) (checked_got BadCount (λ n. leb n most) at (integer_by w s at) e).0).1.1
