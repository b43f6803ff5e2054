-- Parameter names by their shape: where each stands and ends, from its bytes alone.
use Rattle.std.specs.Prelude.{ℕ, zero, suc, ◌+◌, ◌-◌, ◌≤◌, ◌<◌, Bool, true, false, ◌≡◌, List, [], ◌∷◌, length, get_or, ltb}
use Rattle.std.specs.Coded.{le_prop}
use Rattle.std.proofs.Props.{props}
use Rattle.std.proofs.Common.{sym, ap, ap₂, ◌∙◌, subst, arith, ltb-true}
use Rattle.std.proofs.Math.Option.{none, some, none-ne-some, some-injective}
use Rattle.words.specs.Choice.{pick, both}
use Rattle.words.specs.Parts.{region}
use Rattle.faults.specs.declared.Fault.TheVariants.{BadIndex}
use Rattle.format.specs.Read.{got, repeat}
use Rattle.format.specs.Fields.{word, string_at, name, integer, index_below}
use Rattle.format.specs.FieldLaws.{checked_got}
use Rattle.format.specs.RepeatLaws.{went_on, got_value, got_place}
use Rattle.format.specs.Endings.{field_got}
use Rattle.format.specs.Sizes.{name_got}
use Rattle.format.specs.Definition.{ParameterName}
use Rattle.format.specs.Names.{first_index, next_index}
use Rattle.format.specs.Reader.{most_parameters, parameter_name, same_name}

-- "N parameter names (pstring, int32 index)": the place of an entry's index, and the place past the entry
abbrev pub index_place : List ℕ → ℕ → ℕ
index_place s at = at + 1 + get_or s at 0

abbrev pub entry_end : List ℕ → ℕ → ℕ
entry_end s at = index_place s at + 4

-- the entry at a place
abbrev pub entry_at : List ℕ → ℕ → ParameterName
entry_at s at = record { name = string_at s at; index = word s (index_place s at) }

-- so many entries from a place on, and the place past them
unfoldable pub entries_from : List ℕ → ℕ → ℕ → List ParameterName
entries_from s zero at = []
entries_from s (suc n) at = entry_at s at ∷ entries_from s n (entry_end s at)

unfoldable pub entries_end : List ℕ → ℕ → ℕ → ℕ
entries_end s zero at = at
entries_end s (suc n) at = entries_end s n (entry_end s at)

-- they lie in the bytes, and their indices are below a bound
unfoldable pub Entries : List ℕ → ℕ → ℕ → ℕ → Type 0
Entries s bound zero at = at ≤ length s
Entries s bound (suc n) at = (word s (index_place s at) < bound) × (entry_end s at ≤ length s) × Entries s bound n (entry_end s at)

three_props : {A B C : Type 0} → IsProp A → IsProp B → IsProp C → IsProp (A × B × C)
three_props a b c = hlevel (a, b, c)

-- a fact of numbers alone
pub entries_prop : (s : List ℕ) (bound n at : ℕ) → IsProp (Entries s bound n at)
unfolding Entries
entries_prop s bound zero at = le_prop
entries_prop s bound (suc n) at =
    let below : IsProp (word s (index_place s at) < bound) = hlevel props in
    let within : IsProp (entry_end s at ≤ length s) = le_prop in
    let more : IsProp (Entries s bound n (entry_end s at)) = entries_prop s bound n (entry_end s at) in
    three_props below within more

-- what is known of one entry that is not the last of so many, and of those behind it
pub record Turn (s : List ℕ) (bound n i at : ℕ) : Type 0 where
  pub below : word s (index_place s at) < bound
  pub within : entry_end s at ≤ length s
  pub more : Entries s bound (n - (i + 1)) (entry_end s at)
  pub first : entries_from s (n - i) at ≡ entry_at s at ∷ entries_from s (n - (i + 1)) (entry_end s at)

pub entries_turn : (s : List ℕ) (bound n i at : ℕ) → i < n → Entries s bound (n - i) at → Turn s bound n i at
unfolding Entries entries_from
entries_turn s bound n i at h l =
    let e : n - i ≡ suc (n - (i + 1)) = omega arith in
    let w : Entries s bound (suc (n - (i + 1))) at = rw e at l in
    record { below = w.0; within = w.1; more = w.2; first = rw e }

-- what is left of so many entries: they end where all do
pub record Left (s : List ℕ) (count first left at : ℕ) : Type 0 where
  pub known : Entries s most_parameters left at
  pub same : entries_end s left at ≡ entries_end s count first

-- what is known of the first of those left, and of the n behind it
pub record Step (s : List ℕ) (count first n at : ℕ) : Type 0 where
  pub within : entry_end s at ≤ length s
  pub more : {next : ℕ} → next ≡ entry_end s at → Left s count first n next

pub entries_step : {s : List ℕ} {count first left at : ℕ} (n : ℕ) → left ≡ suc n → Left s count first left at → Step s count first n at
unfolding Entries entries_end
entries_step {s} {count} {first} {left} {at} n e l =
    let w : Entries s most_parameters (suc n) at = rw e at l.known in
    let ends : entries_end s (suc n) at ≡ entries_end s count first = rw e at l.same in
    record { within = w.1; more = λ p. record { known = rw p w.2; same = rw p ends } }

pub entries_none : (s : List ℕ) (n i at : ℕ) → n ≤ i → entries_from s (n - i) at ≡ []
unfolding entries_from
entries_none s n i at h = let e : n - i ≡ 0 = omega arith in rw e

-- where none is left
pub entries_last : {s : List ℕ} {count first left at : ℕ} → left ≤ 0 → Left s count first left at → at ≡ entries_end s count first
unfolding entries_end
entries_last {s} {count} {first} {left} {at} h l = let e : left ≡ 0 = omega arith in rw e at l.same

-- an entry that was read
pub record EntryGot (p : ℕ) (s : List ℕ) (at : ℕ) (x : ParameterName) (next : ℕ) : Type 0 where
  pub same : x ≡ entry_at s at
  pub past : next ≡ entry_end s at
  pub below : word s (index_place s at) < p
  pub within : next ≤ length s

entry_got : (p : ℕ) (s : List ℕ) (at : ℕ) {x : ParameterName} {next : ℕ} → parameter_name p s at ≡ got x next → EntryGot p s at x next
entry_got p s at {x} {next} h =
    went_on (name s at) _ h (λ n p1 e1 r1.
    went_on (index_below p s p1) _ r1 (λ i p2 e2 r2.
    let a = name_got s at e1 in
    let b = checked_got BadIndex (λ k. ltb k p) p1 (integer s p1) e2 in
    let d = field_got 4 s p1 (word s p1) b.0 in
    let here : p1 ≡ index_place s at = omega arith in
    let index : i ≡ word s (index_place s at) = sym d.0 ∙ ap (word s) here in
    let last : p2 ≡ next = got_place r2 in
    record {
      same = sym (got_value r2) ∙ ap₂ (λ (l : List ℕ) (k : ℕ). record { name = l; index = k }) (sym a.0) index;
      past = omega arith;
      below = rw index at (ltb-true i p b.1);
      within = omega arith;
    }))

-- entries that were read
pub record EntriesGot (p : ℕ) (s : List ℕ) (n at : ℕ) (names : List ParameterName) (end : ℕ) : Type 0 where
  pub same : names ≡ entries_from s n at
  pub past : end ≡ entries_end s n at
  pub known : Entries s p n at
  pub within : end ≤ length s

pub entries_got : (p : ℕ) (s : List ℕ) (n at : ℕ) {names : List ParameterName} {end : ℕ} → at ≤ length s → repeat (parameter_name p s) n at ≡ got names end
    → EntriesGot p s n at names end
unfolding repeat Entries entries_from entries_end
entries_got p s zero at {names} {end} l h =
    let last : at ≡ end = got_place h in
    record { same = sym (got_value h); past = sym last; known = l; within = omega arith }
entries_got p s (suc n) at {names} {end} l h =
    went_on (parameter_name p s at) _ h (λ x next e1 r1.
    went_on (repeat (parameter_name p s) n next) _ r1 (λ xs last e2 r2.
    let one = entry_got p s at e1 in
    let here : repeat (parameter_name p s) n (entry_end s at) ≡ got xs last = rw one.past at e2 in
    let more = entries_got p s n (entry_end s at) (rw one.past at one.within) here in
    record {
      same = sym (got_value r2) ∙ ap₂ (λ (y : ParameterName) (l : List ParameterName). y ∷ l) one.same more.same;
      past = sym (got_place r2) ∙ more.past;
      known = (one.below, rw one.past at one.within, more.known);
      within = rw (got_place r2) at more.within;
    }))

-- a higher bound
pub entries_below : (s : List ℕ) (p q n at : ℕ) → p ≤ q → Entries s p n at → Entries s q n at
unfolding Entries
entries_below s p q zero at h l = l
entries_below s p q (suc n) at h l = (omega (arith, l.0), l.1, entries_below s p q n (entry_end s at) h l.2)

-- the first entry of a name, by one entry and those behind it
pub named_turn : (s name : List ℕ) (n i at : ℕ) → Turn s most_parameters n i at
    → first_index name (entries_from s (n - i) at) ≡ pick (same_name (string_at s at) name) (some (word s (index_place s at))) (first_index name (entries_from s (n - (i + 1)) (entry_end s at)))
unfolding first_index
named_turn s name n i at t = ap (first_index name) t.first

pub named_none : (s name : List ℕ) (n i at : ℕ) → n ≤ i → first_index name (entries_from s (n - i) at) ≡ none
unfolding first_index
named_none s name n i at h = ap (first_index name) (entries_none s n i at h)

-- a name means an index below the bound
pub named_below : (s name : List ℕ) (p n at i : ℕ) → Entries s p n at → first_index name (entries_from s n at) ≡ some i → i < p
unfolding Entries entries_from first_index
named_below s name p zero at i l e = absurd (none-ne-some i e)
named_below s name p (suc n) at i l e = go (same_name (string_at s at) name) (named_below s name p n (entry_end s at) i l.2) e
  where
    go : (b : Bool) → (first_index name (entries_from s n (entry_end s at)) ≡ some i → i < p)
        → pick b (some (word s (index_place s at))) (first_index name (entries_from s n (entry_end s at))) ≡ some i → i < p
    go true later e = subst (λ (k : ℕ). k < p) (some-injective _ _ e) l.0
    go false later e = later e

-- the next larger index, by one entry and those behind it
pub next_turn : (s : List ℕ) (n k at i end : ℕ) → Turn s most_parameters n k at
    → next_index i end (entries_from s (n - k) at)
    ≡ next_index i (pick (both (ltb i (word s (index_place s at))) (ltb (word s (index_place s at)) end)) (word s (index_place s at)) end) (entries_from s (n - (k + 1)) (entry_end s at))
unfolding next_index
next_turn s n k at i end t = ap (next_index i end) t.first

pub next_none : (s : List ℕ) (n k at i end : ℕ) → n ≤ k → next_index i end (entries_from s (n - k) at) ≡ end
unfolding next_index
next_none s n k at i end h = ap (next_index i end) (entries_none s n k at h)

-- by a test of its bytes
module _ (s name : List ℕ) (n i at : ℕ) (t : Turn s most_parameters n i at) {same : Bool} (said : same ≡ same_name (region (at + 1) (at + 1 + get_or s at 0 - (at + 1)) s) name) where
  tested : same_name (string_at s at) name ≡ same
  tested = let size : get_or s at 0 ≡ at + 1 + get_or s at 0 - (at + 1) = omega arith in ap (λ (k : ℕ). same_name (region (at + 1) k s) name) size ∙ sym said

  pub named_here : same ≡ true → first_index name (entries_from s (n - i) at) ≡ some (word s (index_place s at))
  named_here e = named_turn s name n i at t ∙ rw (tested ∙ e)

  pub named_behind : same ≡ false → first_index name (entries_from s (n - i) at) ≡ first_index name (entries_from s (n - (i + 1)) (entry_end s at))
  named_behind e = named_turn s name n i at t ∙ rw (tested ∙ e)
