-- What a field that was read says: its value, and where it ends.
use Rattle.std.specs.Prelude.{ℕ, ◌+◌, ◌≤◌, ◌≡◌, List, length, get_or, ltb, leb}
use Rattle.std.proofs.Common.{sym}
use Rattle.faults.specs.declared.Fault.TheVariants.{BadIndex, BadRate, BadCount, BadName, Truncated}
use Rattle.format.specs.Read.{got}
use Rattle.format.specs.declared.Width.{Width}
use Rattle.format.specs.Fields.{int8, name, count_by, rate, size_of, value_by, integer_by, index_below_by, pstring, string_at, name_bytes, highest32, highest_rate}
use Rattle.format.specs.FieldLaws.{checked_got, picked}
use Rattle.format.specs.Endings.{FixedSize, field_got}

-- an index takes as many bytes as its width says, a rate one
pub index_sized : (w : Width) (bound : ℕ) (s : List ℕ) → FixedSize (index_below_by w bound s) (size_of w) (length s)
index_sized w bound s at x next h =
    let p = checked_got BadIndex (λ i. ltb i bound) at (integer_by w s at) h in
    let f = field_got (size_of w) s at _ p.0 in (f.1, f.2)

pub rate_sized : (s : List ℕ) → FixedSize (rate s) 1 (length s)
rate_sized s at x next h =
    let p = checked_got BadRate (λ r. leb r highest_rate) at (int8 s at) h in
    let w = field_got 1 s at _ p.0 in (w.1, w.2)

pub count_got : (w : Width) (s : List ℕ) (at : ℕ) {n next : ℕ} → count_by w s at ≡ got n next → (n ≡ value_by w s at) × (next ≡ at + size_of w)
count_got w s at h =
    let p = checked_got BadCount (λ n. leb n highest32) at (integer_by w s at) h in
    let f = field_got (size_of w) s at _ p.0 in (sym f.0, f.1)

pub string_got : (s : List ℕ) (at : ℕ) {n : List ℕ} {next : ℕ} → pstring s at ≡ got n next → (string_at s at ≡ n) × (next ≡ at + (1 + get_or s at 0)) × (next ≤ length s)
string_got s at h = field_got (1 + get_or s at 0) s at (string_at s at) (picked (ltb at (length s)) _ Truncated at h).1

pub name_got : (s : List ℕ) (at : ℕ) {n : List ℕ} {next : ℕ} → name s at ≡ got n next → (string_at s at ≡ n) × (next ≡ at + (1 + get_or s at 0)) × (next ≤ length s)
name_got s at h = string_got s at (checked_got BadName name_bytes at (pstring s at) h).0
