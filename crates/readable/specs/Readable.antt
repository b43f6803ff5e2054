-- A definition whose front is known to be readable: where its parts stand.
use Rattle.std.specs.Prelude.{ℕ, ◌+◌, ◌-◌, ◌*◌, ◌≤◌, ◌<◌, ◌≡◌, List, length, get_or, leb, Some}
use Rattle.std.proofs.Common.{sym, ap, ◌∙◌, arith, leb-true}
use Rattle.std.proofs.Math.Option.{Option, none, some}
use Rattle.faults.specs.declared.Fault.TheVariants.{BadName, BadCount}
use Rattle.format.specs.declared.Width.TheVariants.{Long}
use Rattle.format.specs.Read.{got, repeat}
use Rattle.format.specs.Fields.{word, float32, string_at, pstring, definition_name, integer, count, count_to, highest32}
use Rattle.format.specs.FieldLaws.{checked_got, name_length}
use Rattle.format.specs.NameLaws.{full}
use Rattle.format.specs.RepeatLaws.{went_on, repeat-length, floats_end, got_value, got_place}
use Rattle.format.specs.Endings.{field_got}
use Rattle.format.specs.Sizes.{string_got}
use Rattle.format.specs.Definition.{Front, Definition}
use Rattle.format.specs.Names.{first_index, next_index, cover_from, covered_by}
use Rattle.format.specs.Widths.{next_above}
use Rattle.format.specs.Reader.{most_parameters, size_limit, parameter_name, front_by, read_front, definition_by, read_definition}
use Rattle.front.specs.declared.Counts.{Counts}
use Rattle.front.specs.Front.{name_end, values_at, names_at, counts_of}
use Rattle.readable.specs.Lookup.{name_in, units_in, cover_in}
use Rattle.readable.specs.LookupOf.{found_cover_at}
use Rattle.front.specs.FrontLaws.{front_got}
use Rattle.readable.specs.Entries.{entries_from, entries_end, Entries, entries_got, entries_below, named_below}

-- bytes whose front is readable. A definition has at most 2,048 bytes.
pub record Readable (s : List ℕ) : Type 0 where
  pub front : Front
  pub past : ℕ
  pub reads : read_front s 0 ≡ got front past
  pub short : length s ≤ size_limit

-- bytes that are a readable definition
pub record ReadableWhole (s : List ℕ) : Type 0 where
  pub definition : Definition
  pub past : ℕ
  pub reads : read_definition s 0 ≡ got definition past
  pub short : length s ≤ size_limit

-- a readable definition has a readable front
pub whole_readable : (s : List ℕ) → ReadableWhole s → Readable s
unfolding definition_by
whole_readable s w = went_on (read_front s 0) _ w.reads (λ f p e r. record { front = f; past = p; reads = e; short = w.short })

-- a count that was read
counted : (most : ℕ) (s : List ℕ) (at : ℕ) {n next : ℕ} → count_to most s at ≡ got n next → (word s at ≡ n) × (next ≡ at + 4) × (next ≤ length s) × (n ≤ most)
counted most s at {n} {next} h =
    let a = checked_got BadCount (λ k. leb k most) at (integer s at) h in
    let b = field_got 4 s at (word s at) a.0 in
    (b.0, b.1, b.2, leb-true n most a.1)

-- the parts of a front that was read
pub record Parts (s : List ℕ) (f : Front) (end : ℕ) : Type 0 where
  pub named : get_or s 0 0 ≡ length f.name
  pub constants : word s (name_end 0 f) ≡ length f.constants
  pub parameters : word s (name_end 0 f + 4 + 4 * length f.constants) ≡ length f.values
  pub few : length f.values ≤ most_parameters
  pub many : word s (values_at Long 0 f + 4 * length f.values) ≡ length f.names
  pub within : names_at Long 0 f ≤ length s
  pub names : f.names ≡ entries_from s (length f.names) (names_at Long 0 f)
  pub past : end ≡ entries_end s (length f.names) (names_at Long 0 f)
  pub known : Entries s (length f.values) (length f.names) (names_at Long 0 f)
  pub inside : end ≤ length s

pub parts : (s : List ℕ) {f : Front} {end : ℕ} → read_front s 0 ≡ got f end → Parts s f end
unfolding front_by
parts s {f} {end} h =
    went_on (definition_name s 0) _ h (λ n p1 e1 r1.
    went_on (count s p1) _ r1 (λ k p2 e2 r2.
    went_on (repeat (float32 s) k p2) _ r2 (λ constants p3 e3 r3.
    went_on (count_to most_parameters s p3) _ r3 (λ p p4 e4 r4.
    went_on (repeat (float32 s) p p4) _ r4 (λ values p5 e5 r5.
    went_on (count s p5) _ r5 (λ many p6 e6 r6.
    went_on (repeat (parameter_name p s) many p6) _ r6 (λ names p7 e7 r7.
    let a = string_got s 0 (checked_got BadName full 0 (pstring s 0) e1).0 in
    let b = counted highest32 s p1 e2 in
    let d = counted most_parameters s p3 e4 in
    let g = counted highest32 s p5 e6 in
    let a1 = name_length s 0 e1 in
    let b1 : k ≡ length constants = sym (repeat-length (float32 s) k p2 e3) in
    let d1 : p ≡ length values = sym (repeat-length (float32 s) p p4 e5) in
    let g1 : many ≡ length names = sym (repeat-length (parameter_name p s) many p6 e7) in
    let b2 = floats_end s k p2 e3 in
    let d2 = floats_end s p p4 e5 in
    let q1 : p1 ≡ 0 + (1 + length n) = a1 in
    let q3 : p3 ≡ 0 + (1 + length n) + 4 + 4 * length constants = omega arith in
    let q5 : p5 ≡ 0 + (1 + length n) + 4 + 4 * length constants + 4 + 4 * length values = omega arith in
    let q6 : p6 ≡ 0 + (1 + length n) + 4 + 4 * length constants + 4 + 4 * length values + 4 = omega arith in
    let m = entries_got p s many p6 g.2 e7 in
    rw (sym (got_value r7), sym (got_place r7)) (record {
      named = omega arith;
      constants = ap (word s) (sym q1) ∙ b.0 ∙ b1;
      parameters = ap (word s) (sym q3) ∙ d.0 ∙ d1;
      few = rw d1 at d.3;
      many = ap (word s) (sym q5) ∙ g.0 ∙ g1;
      within = rw q6 at g.2;
      names = rw (g1, q6) at m.same;
      past = rw (g1, q6) at m.past;
      known = rw (d1, g1, q6) at m.known;
      inside = m.within;
    }))))))))

-- the counts, each by those before it
module _ {s : List ℕ} {f : Front} {end : ℕ} (w : Parts s f end) where
  pub constants_fact : word s (1 + get_or s 0 0) ≡ length f.constants
  constants_fact =
      let named = w.named in
      let place : 1 + get_or s 0 0 ≡ name_end 0 f = omega arith in
      ap (word s) place ∙ w.constants

  pub parameters_fact : (k : ℕ) → k ≡ length f.constants → word s (1 + get_or s 0 0 + 4 + 4 * k) ≡ length f.values
  parameters_fact k e =
      let named = w.named in
      let place : 1 + get_or s 0 0 + 4 + 4 * k ≡ name_end 0 f + 4 + 4 * length f.constants = omega arith in
      ap (word s) place ∙ w.parameters

  pub names_fact : (k p : ℕ) → k ≡ length f.constants → p ≡ length f.values → word s (1 + get_or s 0 0 + 4 + 4 * k + 4 + 4 * p) ≡ length f.names
  names_fact k p e g =
      let named = w.named in
      let place : 1 + get_or s 0 0 + 4 + 4 * k + 4 + 4 * p ≡ values_at Long 0 f + 4 * length f.values = omega arith in
      ap (word s) place ∙ w.many

  -- all of them
  pub counts_fact : (k l p q n : ℕ) → k ≡ length f.constants → l ≡ k → p ≡ length f.values → q ≡ p → n ≡ length f.names
      → record { past = 1 + get_or s 0 0; constants = k; values = 1 + get_or s 0 0 + 4 + 4 * l + 4; parameters = p; first = 1 + get_or s 0 0 + 4 + 4 * l + 4 + 4 * q + 4; names = n } ≡ counts_of Long 0 f
  counts_fact k l p q n e e₂ g g₂ h =
      let named = w.named in
      let past : 1 + get_or s 0 0 ≡ name_end 0 f = omega arith in
      let first : 1 + get_or s 0 0 + 4 + 4 * l + 4 ≡ values_at Long 0 f = omega arith in
      let names : 1 + get_or s 0 0 + 4 + 4 * l + 4 + 4 * q + 4 ≡ names_at Long 0 f = omega arith in
      cc

-- the entries of a readable front
pub front_entries : (s : List ℕ) (k : Readable s) → Entries s most_parameters (length k.front.names) (names_at Long 0 k.front)
front_entries s k =
    let w = parts s k.reads in
    entries_below s (length k.front.values) most_parameters (length k.front.names) (names_at Long 0 k.front) w.few w.known

-- .. by its counts
module _ {s : List ℕ} (k : Readable s) {p : Counts} (told : (f : Front) (end : ℕ) → read_front s 0 ≡ got f end → p ≡ counts_of Long 0 f) where
  pub told_counts : p ≡ counts_of Long 0 k.front
  told_counts = told k.front k.past k.reads

  pub told_entries : Entries s most_parameters p.names p.first
  told_entries = rw told_counts (front_entries s k)

  pub told_known : (0 < p.first) × (length s ≤ size_limit) × Entries s most_parameters p.names p.first
  told_known = let first : p.first ≡ names_at Long 0 k.front = ap (λ (q : Counts). q.first) told_counts in (omega arith, k.short, told_entries)

-- what a name covers, by what is found along the entries
module _ (s name : List ℕ) (k : Readable s) (p n at : ℕ) (few : p ≡ length k.front.values) (many : n ≡ length k.front.names) (here : at ≡ names_at Long 0 k.front) where
  by_entries : cover_in name s ≡ cover_from (first_index name (entries_from s n at)) p (entries_from s n at)
  by_entries = found_cover_at s k.reads name ∙ rw (few, many, here) (ap (covered_by name (length k.front.values)) (parts s k.reads).names)

  pub cover_none : none ≡ first_index name (entries_from s n at) → none ≡ cover_in name s
  cover_none e = sym (by_entries ∙ ap (λ (o : Option ℕ). cover_from o p (entries_from s n at)) (sym e))

  module _ (i next : ℕ) (first : some i ≡ first_index name (entries_from s n at)) (e : next ≡ next_index i p (entries_from s n at)) where
    -- its index is below P, and so the next one is past it
    pub next_past : i < next
    next_past =
        rw e
        (next_above i p (entries_from s n at)
        (named_below s name p n at i (rw (few, many, here) (parts s k.reads).known) (sym first)))

    pub cover_some : some (record { index = i; width = next - i }) ≡ cover_in name s
    cover_some =
        ap (λ (m : ℕ). some (record { index = i; width = m - i })) e
        ∙ sym (by_entries ∙ ap (λ (o : Option ℕ). cover_from o p (entries_from s n at)) (sym first))

-- where the count of units stands, and what the lookup tells of it
pub record UnitsAt (s : List ℕ) : Type 0 where
  pub readable : Readable s
  pub within : readable.past + 4 ≤ length s
  pub same : Some (word s readable.past) ≡ units_in s

pub units_at : (s : List ℕ) → ReadableWhole s → UnitsAt s
unfolding definition_by
units_at s w =
    went_on (read_front s 0) _ w.reads (λ f p e r.
    went_on (count s p) _ r (λ many q g rest.
    let b = counted highest32 s p g in
    record {
      readable = record { front = f; past = p; reads = e; short = w.short };
      within = omega arith;
      same = ap (λ (k : ℕ). Some k) b.0 ∙ rw (e, g);
    }))

-- the name stands at the first byte
pub name_fact : (s : List ℕ) → Readable s → string_at s 0 ≡ name_in s
name_fact s k = rw k.reads (string_got s 0 (checked_got BadName full 0 (pstring s 0) (front_got Long s 0 k.reads).name).0).0
