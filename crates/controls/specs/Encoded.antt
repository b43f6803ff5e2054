-- What a definition in its encoded bytes tells of its controls: by its front, which the lookups read.
use Rattle.std.specs.Prelude as prelude
use Rattle.std.specs.Prelude.{ℕ, ◌-◌, ◌≤◌, ◌≡◌, refl, List, [], length, leb, Some, None}
use Rattle.std.proofs.Common.{sym, ap, ◌∙◌, arith, leb-true}
use Rattle.std.proofs.Math.Option.{none, some}
use Rattle.format.specs.declared.Width.TheVariants.{Long}
use Rattle.format.specs.Read.{on_read, Read, got, bad, repeat}
use Rattle.readable.specs.Lookup.{parameters_in, cover_in}
use Rattle.format.specs.Fields.{integer, float32, definition_name, count, count_to, highest16, short_count_to}
use Rattle.format.specs.FieldLaws.{checked_got}
use Rattle.format.specs.RepeatLaws.{went_on, repeat-length}
use Rattle.format.specs.Definition.{Front, Definition}
use Rattle.format.specs.Reader.{most_parameters, parameter_name, front_by, read_front, units_by, variant, definition_by, read_definition}
use Rattle.faults.specs.declared.Fault.TheVariants.{BadCount}
use Rattle.values.specs.declared.Key.{Key}
use Rattle.values.specs.declared.Key.TheVariants.{Index, Name}
use Rattle.format.specs.Names.{first_index, covered_by}
use Rattle.model.specs.Engine.{value_or}
use Rattle.model.specs.Meaning.{cover_of}

-- a front with nothing in it, for bytes that have none
abbrev pub no_front : Front
no_front = record { name = []; constants = []; values = []; names = [] }

unfoldable pub front_in : List ℕ → Front
front_in s = value_or no_front (read_front s 0)

-- the definition as far as its front tells
abbrev pub front_only : List ℕ → Definition
front_only s = record { front = front_in s; units = []; variants = [] }

-- a lookup's answer
abbrev pub number_or : prelude.Option ℕ → ℕ
number_or (Some n) = n
number_or None = 0

-- the front of a definition that was read
pub front_read : (s : List ℕ) {d : Definition} {next : ℕ} → read_definition s 0 ≡ got d next → front_in s ≡ d.front
unfolding front_in definition_by
front_read s {d} {next} h =
    went_on (read_front s 0) _ h (λ f p1 e1 h1.
    went_on (count s p1) _ h1 (λ many p2 e2 h2.
    went_on (units_by Long (length f.constants) s many [] p2) _ h2 (λ units p3 e3 h3.
    went_on (short_count_to highest16 s p3) _ h3 (λ v p4 e4 h4.
    went_on (repeat (variant (length f.values) s) v p4) _ h4 (λ variants p5 e5 h5.
    ap (value_or no_front) e1 ∙ ap (λ (r : Read Definition). (value_or (front_only s) r).front) h5)))))

-- "P at most 32"
few_read : (s : List ℕ) {f : Front} {next : ℕ} → read_front s 0 ≡ got f next → length f.values ≤ most_parameters
unfolding front_by
few_read s {f} {next} h =
    went_on (definition_name s 0) _ h (λ n p1 e1 h1.
    went_on (count s p1) _ h1 (λ k p2 e2 h2.
    went_on (repeat (float32 s) k p2) _ h2 (λ constants p3 e3 h3.
    went_on (count_to most_parameters s p3) _ h3 (λ p p4 e4 h4.
    went_on (repeat (float32 s) p p4) _ h4 (λ values p5 e5 h5.
    went_on (count s p5) _ h5 (λ many p6 e6 h6.
    went_on (repeat (parameter_name p s) many p6) _ h6 (λ names p7 e7 h7.
    let same : values ≡ f.values = ap (λ (r : Read Front). (value_or no_front r).values) h7 in
    let size : length values ≡ p = repeat-length (float32 s) p p4 e5 in
    let low : p ≤ most_parameters = leb-true p most_parameters (checked_got BadCount (λ m. leb m most_parameters) p3 (integer s p3) e4).1 in
    rw (sym same, size) low)))))))

few_or : (r : Read Front) → ((f : Front) (p : ℕ) → r ≡ got f p → length f.values ≤ most_parameters) → length (value_or no_front r).values ≤ most_parameters
few_or (got f p) h = h f p refl
few_or (bad q place) h = omega arith

pub values_few : (s : List ℕ) → length (front_in s).values ≤ most_parameters
unfolding front_in
values_few s = few_or (read_front s 0) (λ f p e. few_read s e)

-- what a key covers, by the front alone
pub cover_front : (key : Key) (name : List ℕ) (d e : Definition) → d.front ≡ e.front → cover_of key name d ≡ cover_of key name e
cover_front (Index i) name d e h = ap (λ (f : Front). some (record { index = i; width = length f.values - i })) h
cover_front Name name d e h = ap (λ (f : Front). covered_by name (length f.values) f.names) h

-- P, as the lookup tells it
count_of : (r : Read Front) → number_or (on_read r None (λ f next. Some (length f.values))) ≡ length (value_or no_front r).values
count_of (got f p) = refl
count_of (bad q place) = refl

pub parameters_fact : (s : List ℕ) → number_or (parameters_in s) ≡ length (front_in s).values
unfolding front_in
parameters_fact s = count_of (read_front s 0)

-- what a name covers, as the lookup tells it
cover-of : (name : List ℕ) (r : Read Front) → on_read r none (λ f next. covered_by name (length f.values) f.names) ≡ covered_by name (length (value_or no_front r).values) (value_or no_front r).names
unfolding first_index
cover-of name (got f p) = refl
cover-of name (bad q place) = refl

pub cover-fact : (name s : List ℕ) → cover_in name s ≡ covered_by name (length (front_in s).values) (front_in s).names
unfolding front_in
cover-fact name s = cover-of name (read_front s 0)
