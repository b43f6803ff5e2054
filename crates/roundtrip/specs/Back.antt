-- Reading what is written: a definition within the bounds, and a file of them, is read back as it was.
use Rattle.std.specs.Prelude.{ℕ, ◌+◌, ◌≤◌, ◌≡◌, refl, true, false, not, List, [], ◌∷◌, ◌++◌, length, leb, eqb}
use Rattle.std.proofs.Common.{arith, leb-true, le-ltb}
use Rattle.std.proofs.lemmas.Bool.{not-true}
use Rattle.words.specs.Bytes.{bytes32}
use Rattle.words.specs.ChoiceLaws.{both_true}
use Rattle.faults.specs.declared.Fault.TheVariants.{NotSynthDef, BadVersion}
use Rattle.format.specs.Read.{Read, got, and_then, checked}
use Rattle.format.specs.Definition.{Definition}
use Rattle.format.specs.Fields.{int32, short_count_to}
use Rattle.format.specs.declared.Width.{Width}
use Rattle.format.specs.declared.Width.TheVariants.{Short, Long}
use Rattle.format.specs.Reader.{most_definitions, size_limit, among, fits, is_version, width_of, Header, read_definition, read_definitions, read_header, read_file}
use Rattle.format.specs.Writer.{file_type, first_version, file_version, version_of, write_all, write_definition, write_header, write_file}
use Rattle.format.specs.Bounds.{is_definition, are_definitions, is_file}
use Rattle.roundtrip.specs.Stands.{Stands, stands_in, stands_all, stands_left, stands_right}
use Rattle.roundtrip.specs.Codec.{Reads, then_reads, last_reads, none_reads, checked_reads}
use Rattle.roundtrip.specs.FieldsBack.{int32_reads, short_count_reads}
use Rattle.roundtrip.specs.RecordsBack.{definition_reads}

-- a definition is read back from its writing, whatever stands before and after it
pub definition_back : (d : Definition) → is_definition d ≡ true → (a z : List ℕ)
    → read_definition (a ++ (write_definition d ++ z)) (length a) ≡ got d (length a + length (write_definition d))
definition_back d t a z = (definition_reads Long d t).found (a ++ (write_definition d ++ z)) (length a) (stands_in a (write_definition d) z)

fitting_reads : (names : List (List ℕ)) (d : Definition) → is_definition d ≡ true → length (write_definition d) ≤ size_limit → among d.front.name names ≡ false
    → Reads (λ s at. and_then (read_definition s at) (λ d next. fits names at d next)) d (write_definition d)
fitting_reads names d t small new = record {
  found = λ s at h.
      rw ((definition_reads Long d t).found s at h, le-ltb size_limit (length (write_definition d)) small, new);
}

definitions_read : (ds : List Definition) (names : List (List ℕ)) → are_definitions names ds ≡ true
    → Reads (λ s at. read_definitions Long s (length ds) names at) ds (write_all write_definition ds)
unfolding read_definitions are_definitions write_all
definitions_read [] names t = none_reads []
definitions_read (d ∷ ds) names t =
    let t1 = both_true (is_definition d) _ t in
    let t2 = both_true (leb (length (write_definition d)) size_limit) _ t1.1 in
    let t3 = both_true (not (among d.front.name names)) _ t2.1 in
    then_reads _ (fitting_reads names d t1.0 (leb-true (length (write_definition d)) size_limit t2.0) (not-true (among d.front.name names) t3.0))
    (last_reads _ (definitions_read ds (names ++ (d.front.name ∷ [])) t3.1))

-- the header, from any place on
abbrev header_at : List ℕ → ℕ → Read Header
header_at s at =
    and_then (checked NotSynthDef (λ t. eqb t file_type) at (int32 s at)) (λ t p1.
    and_then (checked BadVersion is_version p1 (int32 s p1)) (λ v p2.
    and_then (short_count_to most_definitions s p2) (λ n p3.
    got (record { width = width_of v; count = n }) p3)))

version_reads : (w : Width) → Reads (λ s at. checked BadVersion is_version at (int32 s at)) (version_of w) (bytes32 (version_of w))
version_reads Short = checked_reads BadVersion is_version (int32_reads first_version (omega arith)) refl
version_reads Long = checked_reads BadVersion is_version (int32_reads file_version (omega arith)) refl

pub header_reads : (w : Width) (n : ℕ) → leb n most_definitions ≡ true → Reads header_at (record { width = width_of (version_of w); count = n }) (write_header w n)
header_reads w n t =
    then_reads _ (checked_reads NotSynthDef (λ t. eqb t file_type) (int32_reads file_type (omega arith)) refl)
    (then_reads _ (version_reads w) (last_reads _ (short_count_reads most_definitions (omega arith) n t)))

-- a file is read back from its writing
pub file_back : (ds : List Definition) → is_file ds ≡ true → read_file (write_file ds) ≡ got ds (length (write_file ds))
unfolding read_file write_file
file_back ds t =
    let u = both_true (leb (length ds) most_definitions) _ t in
    let s : List ℕ = write_file ds in
    let h : Stands s 0 (write_header Long (length ds) ++ write_all write_definition ds) = stands_all s in
    let head : read_header s ≡ got (record { width = Long; count = length ds }) 10 = (header_reads Long (length ds) u.0).found s 0 (stands_left s 0 (write_header Long (length ds)) (write_all write_definition ds) h) in
    let rest : read_definitions Long s (length ds) [] 10 ≡ got ds (10 + length (write_all write_definition ds)) =
    (definitions_read ds [] u.1).found s 10 (stands_right s 0 (write_header Long (length ds)) (write_all write_definition ds) h) in
    let size : 10 + length (write_all write_definition ds) ≡ length s = omega arith in
    rw (head, rest, size, le-ltb (length s) (length s) (omega arith))
