-- What a key covers in a definition: where it ends, and how many of its controls a count reaches.
use Prim.{Unit, tt}
use Rattle.std.specs.Prelude as prelude
use Rattle.std.specs.Prelude.{Result, Ok, Err, Some, None, IfSome, ℕ, ◌+◌, ◌*◌, ◌-◌, ◌≤◌, ◌<◌, min, Bool, not, ◌≡◌, List, ◌++◌, ltb, leb, length, drop}
use Rattle.std.proofs.Math.Bool.{true, false}
use Rattle.std.proofs.Math.Path.{refl, ap}
use Rattle.std.proofs.Common.{sym, ◌∙◌, subst, arith, leb-true, leb-false, ltb-true, le-leb, lt-ltb, le-ltb}
use Rattle.std.proofs.Math.Option.{Option, none, some, none-ne-some, some-injective}
use Rattle.std.proofs.lemmas.Bool.{lt-leb}
use Rattle.std.proofs.Math.ListN.{take, take-append-drop}
use Rattle.words.specs.Choice.{pick}
use Rattle.format.specs.Definition.{Definition}
use Rattle.format.specs.Names.{Covered, first_index, next_index, cover_from}
use Rattle.format.specs.Reader.{most_parameters}
use Rattle.format.specs.Widths.{next_most, next_above}
use Rattle.readable.specs.declared.cover.Cover.{Cover}
use Rattle.readable.specs.Lookup.{cover_at}
use Rattle.values.specs.declared.Key.{Key}
use Rattle.values.specs.declared.Key.TheVariants.{Index, Name}
use Rattle.values.specs.Controls.{ControlValue}
use Rattle.model.specs.Layout.{row_words}
use Rattle.model.specs.Meaning.{cover_of, has_controls, past_width}
use Rattle.model.specs.Effects.{change_words, change_row}
use Rattle.refusals.specs.declared.Refusal.{Refusal}
use Rattle.refusals.specs.declared.Refusal.TheVariants.{NoControl, PastWidth}
use Rattle.controls.specs.Encoded.{front_in, front_only, values_few}
use Rattle.controls.specs.Noted.{Noted}
use Rattle.slots.specs.Slots.{slot_bytes}

-- refusal 21's test, and 28's behind it
abbrev pub asked_by : Bool → Bool → Result (Unit {0}) Refusal
asked_by missing past = pick missing (Err NoControl) (pick past (Err PastWidth) (Ok tt))

abbrev pub asked_in : Option Covered → ℕ → Definition → Result (Unit {0}) Refusal
asked_in o count d = asked_by (not (has_controls o count d)) (past_width o count)

-- what is covered ends by the last control, and what covers nothing starts past it
pub record Bounded (p : ℕ) (c : Covered) : Type 0 where
  pub ends : 0 < c.width → c.index + c.width ≤ p
  pub past : c.width ≡ 0 → p ≤ c.index

bounded_by : (p i next : ℕ) → next ≤ p → (i < p → i < next) → Bounded p (record { index = i; width = next - i })
bounded_by p i next most above = record { ends = λ h. omega arith; past = λ h. by h (leb p i) refl }
  where
    by : next - i ≡ 0 → (b : Bool) → leb p i ≡ b → p ≤ i
    by h true e = leb-true p i e
    by h false e = absurd (let low = above (leb-false p i e) in omega arith)

pub bounded : (key : Key) (name : List ℕ) (d : Definition) (c : Covered) → cover_of key name d ≡ some c → Bounded (length d.front.values) c
bounded (Index i) name d c e =
    subst (Bounded (length d.front.values)) (some-injective _ _ e) (bounded_by (length d.front.values) i (length d.front.values) (omega arith) (λ h. h))
bounded Name name d c e = go (first_index name d.front.names) e
  where
    p : ℕ
    p = length d.front.values

    go : (o : Option ℕ) → cover_from o p d.front.names ≡ some c → Bounded p c
    go none f = absurd (none-ne-some c f)
    go (some i) f =
        subst (Bounded p) (some-injective _ _ f)
        (bounded_by p i (next_index i p d.front.names) (next_most i p d.front.names) (next_above i p d.front.names))

-- a key that covers a control is not past its width with one
pub one_covered : (key : Key) (name : List ℕ) (d : Definition) → has_controls (cover_of key name d) 1 d ≡ true → past_width (cover_of key name d) 1 ≡ false
one_covered key name d h = go (cover_of key name d) refl h
  where
    go : (o : Option Covered) → cover_of key name d ≡ o → has_controls o 1 d ≡ true → past_width o 1 ≡ false
    go none e k = refl
    go (some c) e k = by (ltb c.width 1) refl
      where
        by : (b : Bool) → ltb c.width 1 ≡ b → ltb c.width 1 ≡ false
        by true l =
            let none-covered : c.width ≡ 0 = omega (arith, ltb-true c.width 1 l) in
            absurd (omega (arith, (bounded key name d c e).past none-covered, leb-true (c.index + 1) (length d.front.values) k))
        by false l = l

-- what was looked up, in a row
abbrev pub Inside : prelude.Option Cover → Type 0
Inside o = IfSome o (λ c. 0 < c.width → c.index + c.width ≤ most_parameters)

-- and among a definition's controls
abbrev pub Within : List ℕ → prelude.Option Cover → Type 0
Within s o = IfSome o (λ c. 0 < c.width → c.index + c.width ≤ length (front_in s).values)

pub cover_within : (key : Key) (name s : List ℕ) (o : prelude.Option Cover) → cover_at o ≡ cover_of key name (front_only s) → Within s o
cover_within key name s None e = tt
cover_within key name s (Some c) e = (bounded key name (front_only s) (record { index = c.index; width = c.width }) (sym e)).ends

pub within_inside : (s : List ℕ) (o : prelude.Option Cover) → Within s o → Inside o
within_inside s None within = tt
within_inside s (Some c) within = λ h. omega (arith, within h, values_few s)

pub cover_inside : (key : Key) (name s : List ℕ) (o : prelude.Option Cover) → cover_at o ≡ cover_of key name (front_only s) → Inside o
cover_inside key name s o e = within_inside s o (cover_within key name s o e)

-- refusal 21's test and 28's, by what is covered
module _ (s : List ℕ) (c : Cover) (count : ℕ) where
  pub asked_missing : length (front_in s).values < c.index + count → Err NoControl ≡ asked_in (cover_at (Some c)) count (front_only s)
  asked_missing h = sym (rw (lt-leb (c.index + count) (length (front_in s).values) h))

  pub asked_past : c.index + count ≤ length (front_in s).values → c.width < count → Err PastWidth ≡ asked_in (cover_at (Some c)) count (front_only s)
  asked_past h l = sym (rw (le-leb (c.index + count) (length (front_in s).values) h, lt-ltb c.width count l))

  pub asked_there : c.index + count ≤ length (front_in s).values → count ≤ c.width → Ok tt ≡ asked_in (cover_at (Some c)) count (front_only s)
  asked_there h l = sym (rw (le-leb (c.index + count) (length (front_in s).values) h, le-ltb c.width count l))

-- none of the controls that are covered is changed
pub reached_none : (c : Cover) (count : ℕ) (f : ControlValue → ControlValue) (row : ℕ) (cs : List ℕ) → min count c.width ≡ 0 → change_row f row c.index (min count c.width) cs ≡ cs
unfolding change_words
reached_none c count f row cs e =
    ap (λ (n : ℕ). take (row_words * row + 2 * c.index) cs ++ change_words f n (drop (row_words * row + 2 * c.index) cs)) e
    ∙ take-append-drop (row_words * row + 2 * c.index) cs

-- what a key covers in the definition in a slot
abbrev pub cover_on : Key → List ℕ → List ℕ → List ℕ → ℕ → Option Covered
cover_on key name ws arena k = cover_of key name (front_only (slot_bytes ws arena k))

-- what is covered in the slots that were looked up
abbrev pub CoversNoted : Key → List ℕ → List ℕ → List ℕ → List (prelude.Option (prelude.Option Cover)) → Type 0
CoversNoted key name ws arena covers = Noted (λ (k : ℕ) (o : prelude.Option Cover). cover_at o ≡ cover_on key name ws arena k) covers

pub covered-same : (r : prelude.Option (prelude.Option Cover)) (x y : Option Covered) → x ≡ y → IfSome r (λ o. cover_at o ≡ x) → IfSome r (λ o. cover_at o ≡ y)
covered-same r x y e h = subst (λ (z : Option Covered). IfSome r (λ o. cover_at o ≡ z)) e h

-- how many controls the definition in a slot has
abbrev pub controls_on : List ℕ → List ℕ → ℕ → ℕ
controls_on ws arena k = length (front_in (slot_bytes ws arena k)).values

abbrev pub Counted : List ℕ → List ℕ → List (prelude.Option ℕ) → Type 0
Counted ws arena counts = Noted (λ (k n : ℕ). n ≡ controls_on ws arena k) counts
