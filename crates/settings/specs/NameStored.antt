-- A definition's name, as a save writes it into a store.
use Rattle.std.specs.Prelude.{ℕ, ◌≤◌, ◌<◌, true, ◌≡◌, List, length, ltb, leb}
use Rattle.std.proofs.Common.{◌∙◌, subst, arith, le-leb, leb-true, ltb-true, length-take}
use Rattle.words.specs.ChoiceLaws.{both_true}
use Rattle.words.specs.Bytes.{AreBytes}
use Rattle.faults.specs.declared.Fault.TheVariants.{BadName}
use Rattle.format.specs.declared.Width.TheVariants.{Long}
use Rattle.format.specs.Read.{got}
use Rattle.format.specs.Fields.{name_bytes, string_at, pstring}
use Rattle.format.specs.FieldLaws.{checked_got}
use Rattle.format.specs.NameLaws.{full}
use Rattle.format.specs.Sizes.{string_got}
use Rattle.front.specs.FrontLaws.{front_got}
use Rattle.readable.specs.Lookup.{name_in}
use Rattle.readable.specs.Readable.{Readable}
use Rattle.store.specs.Store.{is_name, longest_name}

-- a pstring of bytes is short enough for a name
string_short : (s : List ℕ) (at : ℕ) → AreBytes s → length (string_at s at) ≤ longest_name
string_short s at lent = simp length-take (omega (arith, lent at))

read_name : (s : List ℕ) (at : ℕ) {n : List ℕ} {next : ℕ} → AreBytes s → pstring s at ≡ got n next → name_bytes n ≡ true → is_name n ≡ true
read_name s at {n} lent e formed =
    let short : length n ≤ longest_name = subst (λ (l : List ℕ). length l ≤ longest_name) (string_got s at e).0 (string_short s at lent) in
    rw (le-leb (length n) longest_name short) formed

-- a definition's name is one that a store takes
pub record NameStored (n : List ℕ) : Type 0 where
  pub named : is_name n ≡ true
  pub full : 0 < length n
  pub short : length n ≤ longest_name

pub definition-name : (s : List ℕ) → AreBytes s → (k : Readable s) {n : List ℕ} → n ≡ name_in s → NameStored n
definition-name s lent k {n} same =
    let t = checked_got BadName full 0 (pstring s 0) (front_got Long s 0 k.reads).name in
    let b = both_true (ltb 0 (length k.front.name)) (name_bytes k.front.name) t.1 in
    let named = read_name s 0 lent t.0 b.1 in
    let front : n ≡ k.front.name = same ∙ rw k.reads in
    rw front (record {
      named = named;
      full = ltb-true 0 (length k.front.name) b.0;
      short = leb-true (length k.front.name) longest_name (both_true (leb (length k.front.name) longest_name) (name_bytes k.front.name) named).0;
    })
