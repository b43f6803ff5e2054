-- The walk along an accepted file's definitions, whose encodings are measured or written one behind the other.
use Prim.Native.Nat.{ℕ, suc, ◌+◌, ◌*◌, ◌-◌, ◌≤◌, ◌<◌}
use Rattle.std.specs.Prelude.{Bool, true, false, ◌≡◌, ltb, eqb}
use Rattle.std.proofs.Math.Path.{refl, sym, ap, ap₂}
use Rattle.std.proofs.Common.{◌∙◌, ltb-false, eqb-true, le-leb}
use mathlib.Core.List.{List, [], ◌∷◌, ◌++◌}
use native.Mathlib.Omega.{arith}
use Rattle.std.proofs.Math.Nat.{sub-zero}
use Rattle.std.proofs.Math.ListN.{length, length-append}
use Rattle.std.proofs.lemmas.Bool.{lt-leb}
use Rattle.words.specs.Choice.{pick}
use Rattle.faults.specs.declared.Fault.{Fault}
use Rattle.faults.specs.declared.Fault.TheVariants.{TooLong, NameTwice}
use Rattle.format.specs.declared.Width.{Width}
use Rattle.format.specs.declared.Width.TheVariants.{Long}
use Rattle.format.specs.Read.{Read, got, bad, and_then, on_read}
use Rattle.format.specs.Definition.{Definition}
use Rattle.format.specs.HeaderLaws.{header_got}
use Rattle.format.specs.Reader.{version_in, file_width, size_limit, among, fits, is_version, width_of, definition_by, read_definitions, read_header, read_file}
use Rattle.format.specs.RepeatLaws.{went_on, got_value, got_place}
use Rattle.format.specs.Writer.{first_version, file_version, version_of, write_all, write_definition, write_header, write_file}
use Rattle.words.specs.Parts.{over}
use Rattle.osc.specs.Over.{over_over, over_length, over_first}
use Rattle.std.specs.Prelude.{Result, Ok, Err}
use Rattle.faults.specs.declared.FileError.{FileError}
use Rattle.files.specs.File.{first_place, verdict}
use Rattle.widening.specs.Moved.{over_none}
use Rattle.reader.specs.Places.{place_after}
use Rattle.reader.specs.SpanLaws.{read_whole}
use Rattle.synthdef.specs.Twin.{definitions_in, twin, Accepted, accepted_version, widened_length, widened_bytes, Widens}

-- a definition was read from one place to another, and its encoding is no longer than the limit
pub record Fitting (w : Width) (s : List ℕ) (at end : ℕ) : Type 0 where
  pub definition : Definition
  pub read : definition_by w s at ≡ got definition end
  pub small : length (write_definition definition) ≤ size_limit

-- behind i of n definitions, whose encodings end at a place of the twin: what is left to read, and how long its encodings are
pub record Reading (s : List ℕ) (n i at to : ℕ) : Type 0 where
  pub rest : List Definition
  pub names : List (List ℕ)
  pub end : ℕ
  pub most : i ≤ n
  pub read : read_definitions (file_width s) s (n - i) names at ≡ got rest end
  pub size : to + length (write_all write_definition rest) ≡ length (twin s)
  pub few : to ≤ first_place + size_limit * i

-- the next definition, and the walk behind it
pub record Next (s : List ℕ) (n i at to : ℕ) (rest : List Definition) : Type 0 where
  pub next : ℕ
  pub here : Fitting (file_width s) s at next
  pub behind : Reading s n (i + 1) next (to + length (write_definition here.definition))
  pub whole : rest ≡ here.definition ∷ behind.rest

-- where a definition ends
pub after-here : (s : List ℕ) (at : ℕ) {d : Definition} {next : ℕ} → definition_by (file_width s) s at ≡ got d next → place_after s at ≡ next
after-here s at e = ap (λ (r : Read Definition). on_read r (length s) (λ d n. n)) e

-- the head of the twin
head_length : (ds : List Definition) → length (write_file ds) ≡ first_place + length (write_all write_definition ds)
unfolding write_file
head_length ds = omega arith

pub head_length_in : (s : List ℕ) → first_place ≤ length (twin s)
head_length_in s = omega (arith, head_length (definitions_in s))

pub reading_first : (s : List ℕ) {n : ℕ} → Accepted s n → Reading s n 0 first_place first_place
reading_first s {n} a =
    let w = read_whole s a.read in
    record {
      rest = definitions_in s;
      names = [];
      end = a.end;
      most = omega arith;
      read = ap (λ (m : ℕ). read_definitions (file_width s) s m [] first_place) (sub-zero n ∙ sym a.many) ∙ w.read;
      size = sym (head_length (definitions_in s));
      few = omega arith;
    }

-- a definition that passed the tests at its end
fitted : (names : List (List ℕ)) (at next : ℕ) (d x : Definition) (m : ℕ) (l : Bool) → ltb size_limit (length (write_definition x)) ≡ l → (a : Bool)
    → pick l (bad TooLong at) (pick a (bad NameTwice at) (got x m)) ≡ got d next → (x ≡ d) × (m ≡ next) × (length (write_definition x) ≤ size_limit)
fitted names at next d x m true e a r = absurd (let z : ◌≡◌ {A = ℕ} 0 1 = cc in omega arith)
fitted names at next d x m false e true r = absurd (let z : ◌≡◌ {A = ℕ} 0 1 = cc in omega arith)
fitted names at next d x m false e false r = (got_value r, got_place r, ltb-false size_limit (length (write_definition x)) e)

module _ {s : List ℕ} {n i at to : ℕ} (r : Reading s n i at to) where
  pub reading_next : i < n → Next s n i at to r.rest
  unfolding read_definitions write_all
  reading_next l =
      let e : n - i ≡ suc (n - (i + 1)) = omega arith in
      let names = r.names in
      went_on (and_then (definition_by (file_width s) s at) (λ d next. fits names at d next)) _ (rw e at r.read) (λ d next e1 r1.
      went_on (read_definitions (file_width s) s (n - (i + 1)) (names ++ (d.front.name ∷ [])) next) _ r1 (λ rest last e2 r2.
      went_on (definition_by (file_width s) s at) _ e1 (λ x m e3 r3.
      let f = fitted names at next d x m (ltb size_limit (length (write_definition x))) refl (among x.front.name names) r3 in
      let whole : d ∷ rest ≡ r.rest = got_value r2 in
      let sum = ap (λ (ds : List Definition). length (write_all write_definition ds)) whole in
      let add = length-append (write_definition d) (write_all write_definition rest) in
      let same = ap (λ (y : Definition). length (write_definition y)) f.0 in
      record {
        next = next;
        here = record { definition = d; read = e3 ∙ ap₂ (λ (y : Definition) (p : ℕ). got y p) f.0 f.1; small = omega (arith, f.2) };
        behind = record {
          rest = rest;
          names = names ++ (d.front.name ∷ []);
          end = last;
          most = omega arith;
          read = e2;
          size = omega (arith, r.size);
          few = omega (arith, r.few, f.2);
        };
        whole = sym whole;
      })))

  pub reading_none : n ≤ i → r.rest ≡ []
  unfolding read_definitions
  reading_none l =
      let e : n - i ≡ 0 = omega arith in
      sym (got_value (rw e at r.read))

  pub reading-last : n ≤ i → to ≡ length (twin s)
  unfolding write_all
  reading-last l = omega (arith, r.size, ap (λ (ds : List Definition). length (write_all write_definition ds)) (reading_none l))

-- the same while the encodings are written behind a head: what is left to write, from the present place on, leaves what all of them do
pub record Writing (s : List ℕ) (n i at to : ℕ) (before after : List ℕ) : Type 0 where
  pub reading : Reading s n i at to
  pub bytes : over to (write_all write_definition reading.rest) after ≡ over first_place (write_all write_definition (definitions_in s)) before
  pub same : length after ≡ length before

pub writing_first : (s : List ℕ) {n : ℕ} (before : List ℕ) → Accepted s n → Writing s n 0 first_place first_place before before
unfolding reading_first
writing_first s before a = record { reading = reading_first s a; bytes = refl; same = refl }

module _ {s : List ℕ} {n i at to : ℕ} {before after : List ℕ} (w : Writing s n i at to before after) (room : length (twin s) ≤ length before) where
  -- room for the next one
  pub writing-room : (l : i < n) → to + length (write_definition (reading_next w.reading l).here.definition) ≤ length after
  writing-room l = let x = reading_next w.reading l in omega (arith, x.behind.size, w.same)

  pub writing_next : (l : i < n) {after' : List ℕ} {to' : ℕ} → after' ≡ over to (write_definition (reading_next w.reading l).here.definition) after
      → to' ≡ to + length (write_definition (reading_next w.reading l).here.definition) → Writing s n (i + 1) (reading_next w.reading l).next to' before after'
  unfolding write_all
  writing_next l {after'} {to'} e f =
      let x = reading_next w.reading l in
      let d = x.here.definition in
      let rest = write_all write_definition x.behind.rest in
      let room' = writing-room l in
      rw f (record {
        reading = x.behind;
        bytes =
            ap (over (to + length (write_definition d)) rest) e
            ∙ over_over to (to + length (write_definition d)) (write_definition d) rest after refl (omega (arith, x.behind.size, w.same))
            ∙ sym (ap (λ (ds : List Definition). over to (write_all write_definition ds) after) x.whole)
            ∙ w.bytes;
        same = ap length e ∙ over_length to (write_definition d) after room' ∙ w.same;
      })

  -- all of them, behind the head
  pub writing-last : (start : List ℕ) → n ≤ i → Accepted s n → length (twin s) ≤ length start → before ≡ over 0 (write_header Long n) start → after ≡ over 0 (twin s) start
  unfolding write_all write_file
  writing-last start l a most e =
      let ds = definitions_in s in
      let all = write_all write_definition ds in
      over_none to after
      ∙ sym (ap (λ (ds : List Definition). over to (write_all write_definition ds) after) (reading_none w.reading l))
      ∙ w.bytes
      ∙ ap (over first_place all) (e ∙ ap (λ (m : ℕ). over 0 (write_header Long m) start) (sym a.many))
      ∙ over_over 0 first_place (write_header Long (length ds)) all start refl (omega (arith, head_length ds))

-- what the exported functions answer
pub accepted : (s : List ℕ) {n : ℕ} → verdict (read_file s) ≡ Ok n → Accepted s n
accepted s {n} h = by (read_file s) refl h
  where
    by : (r : Read (List Definition)) → read_file s ≡ r → verdict r ≡ Ok n → Accepted s n
    by (got ds end) e t = record { end = end; read = rw e refl; many = rw e (let same : length ds ≡ n = cc in same) }
    by (bad q at) e t = absurd (let z : ◌≡◌ {A = ℕ} 0 1 = cc in omega arith)

-- a refusal as a reading
refusal_of : Result ℕ FileError → Read (List Definition)
refusal_of (Ok n) = got [] n
refusal_of (Err e) = bad e.0 e.1

pub refused : (s : List ℕ) {q : Fault} {place : ℕ} → verdict (read_file s) ≡ Err (record { 0 = q; 1 = place }) → read_file s ≡ bad q place
unfolding refusal_of
refused s {q} {place} h = by (read_file s) h
  where
    by : (r : Read (List Definition)) → verdict r ≡ Err (record { 0 = q; 1 = place }) → r ≡ bad q place
    by (got ds end) t = absurd (let z : ◌≡◌ {A = ℕ} 0 1 = cc in omega arith)
    by (bad f at) t = ap refusal_of t

-- a version that can be read is that of its width
version_width : (v : ℕ) → is_version v ≡ true → version_of (width_of v) ≡ v
version_width v h = by (eqb v first_version) refl (eqb v file_version) refl
  where
    by : (a : Bool) → eqb v first_version ≡ a → (b : Bool) → eqb v file_version ≡ b → version_of (width_of v) ≡ v
    by true e b f = rw e (sym (eqb-true v first_version e))
    by false e true f = rw e (sym (eqb-true v file_version f))
    by false e false f = let g = rw (e, f) at h in let z : ◌≡◌ {A = ℕ} 0 1 = cc in absurd (omega arith)

file-version : (s : List ℕ) {ds : List Definition} {end : ℕ} → read_file s ≡ got ds end → is_version (version_in s) ≡ true
unfolding read_file
file-version s e = went_on (read_header s) _ e (λ h p1 e1 r1. (header_got s e1).version)

pub version_accepted : (s : List ℕ) {n : ℕ} → Accepted s n → version_of (file_width s) ≡ accepted_version s
version_accepted s a = version_width (version_in s) (file-version s a.read) ∙ sym (ap (λ (r : Read (List Definition)). on_read r 0 (λ ds end. version_in s)) a.read)

pub version_refused : (s : List ℕ) {q : Fault} {place : ℕ} → read_file s ≡ bad q place → ◌≡◌ {A = ℕ} 0 (accepted_version s)
version_refused s e = sym (ap (λ (r : Read (List Definition)). on_read r 0 (λ ds end. version_in s)) e)

-- what becomes of the bytes that a twin is written to
module _ (s before : List ℕ) {n : ℕ} (a : Accepted s n) where
  pub widens_none : length before < length (twin s) → Widens s before before 0
  widens_none h = record {
    length = sym (ap (λ (r : Read (List Definition)). widened_length r before) a.read ∙ rw (lt-leb (length (twin s)) (length before) h));
    bytes = sym (ap (λ (r : Read (List Definition)). widened_bytes r before) a.read ∙ rw (lt-leb (length (twin s)) (length before) h));
  }

  pub widens_twin : {after : List ℕ} {size : ℕ} → length (twin s) ≤ length before → size ≡ length (twin s) → after ≡ over 0 (twin s) before → Widens s before after size
  widens_twin h e f = record {
    length = e ∙ sym (ap (λ (r : Read (List Definition)). widened_length r before) a.read ∙ rw (le-leb (length (twin s)) (length before) h));
    bytes = f ∙ over_first (twin s) before ∙ sym (ap (λ (r : Read (List Definition)). widened_bytes r before) a.read ∙ rw (le-leb (length (twin s)) (length before) h));
  }

pub widens_refused : (s before : List ℕ) {q : Fault} {place : ℕ} → read_file s ≡ bad q place → Widens s before before 0
widens_refused s before e = record {
  length = sym (ap (λ (r : Read (List Definition)). widened_length r before) e);
  bytes = sym (ap (λ (r : Read (List Definition)). widened_bytes r before) e);
}
