-- What a file's head tells: it takes ten bytes, and the width of the fields is that of the version behind "SCgf".
use Rattle.std.specs.Prelude.{ℕ, true, ◌≡◌, List, leb, eqb}
use Rattle.std.proofs.Common.{sym, ap, ◌∙◌, arith}
use Rattle.faults.specs.declared.Fault.TheVariants.{NotSynthDef, BadVersion, BadCount}
use Rattle.format.specs.Read.{got, checked}
use Rattle.format.specs.Fields.{word, int16, int32, short_count_to}
use Rattle.format.specs.FieldLaws.{checked_got, whole_got}
use Rattle.format.specs.RepeatLaws.{went_on}
use Rattle.format.specs.Writer.{file_type}
use Rattle.format.specs.Reader.{most_definitions, is_version, width_of, version_in, file_width, Header, read_header}

pub record HeaderGot (s : List ℕ) (h : Header) (p : ℕ) : Type 0 where
  pub past : p ≡ 10
  pub width : h.width ≡ file_width s
  pub version : is_version (version_in s) ≡ true
  pub few : leb h.count most_definitions ≡ true

pub header_got : (s : List ℕ) {h : Header} {p : ℕ} → read_header s ≡ got h p → HeaderGot s h p
header_got s {h} {p} e =
    went_on (checked NotSynthDef (λ t. eqb t file_type) 0 (int32 s 0)) _ e (λ t p1 e1 r1.
    went_on (checked BadVersion is_version p1 (int32 s p1)) _ r1 (λ v p2 e2 r2.
    went_on (short_count_to most_definitions s p2) _ r2 (λ n p3 e3 r3.
    let a = whole_got 4 s 0 _ (checked_got NotSynthDef (λ t. eqb t file_type) 0 (int32 s 0) e1).0 in
    let f = checked_got BadVersion is_version p1 (int32 s p1) e2 in
    let b = whole_got 4 s p1 _ f.0 in
    let g = checked_got BadCount (λ n. leb n most_definitions) p2 (int16 s p2) e3 in
    let d = whole_got 2 s p2 _ g.0 in
    let here : p1 ≡ 4 = omega arith in
    let last : p3 ≡ p = cc in
    let same : record { width = width_of v; count = n } ≡ h = cc in
    let read : version_in s ≡ v = ap (λ (q : ℕ). word s q) (sym here) ∙ b.1.0 in
    record {
      past = omega arith;
      width = sym (ap (λ (x : Header). x.width) same) ∙ ap width_of (sym read);
      version = rw read f.1;
      few = rw (sym (ap (λ (x : Header). x.count) same)) g.1;
    })))
