-- The names of residents.
use Rattle.std.specs.Prelude.{ℕ, ◌+◌, ◌≤◌, ◌<◌, Bool, true, false, ◌≡◌, refl, length, drop, get_or, set, eqb}
use Rattle.std.proofs.Common.{sym, ◌∙◌, arith, length-set, get_or-set_same, get_or-set_other, eqb-true}
use Rattle.std.proofs.Math.Path.{ap}
use mathlib.Core.List.{List}
use Rattle.std.proofs.lemmas.Bool.{eqb-false}
use Rattle.words.specs.Choice.{pick, both, either}
use Rattle.format.specs.declared.Width.TheVariants.{Long}
use Rattle.format.specs.Read.{Read}
use Rattle.format.specs.Fields.{string_at}
use Rattle.format.specs.Definition.{Definition}
use Rattle.format.specs.Reader.{same_name}
use Rattle.model.specs.Layout.{slot_count}
use Rattle.model.specs.Engine.{Slot, name_in, no_definition, value_or, resident_from}
use Rattle.slots.specs.Slots.{slots_on, slot_on, bytes_on, resident_on, slot-at, slots_end}
use Rattle.definitions.specs.Slots.{Whole}
use Rattle.definitions.specs.Files.{definition_named}

-- the name in the slot k
abbrev pub name_on : List ℕ → List ℕ → ℕ → List ℕ
name_on table arena k = name_in (slot_on table arena k)

-- a resident's name stands at the front of its bytes
pub record NamedThere (table arena : List ℕ) (k : ℕ) : Type 0 where
  pub same : name_on table arena k ≡ string_at (bytes_on table arena k) 0
  pub inside : 0 + (1 + get_or (bytes_on table arena k) 0 0) ≤ length (bytes_on table arena k)

pub named_there : (table arena : List ℕ) (k : ℕ) → Whole table arena k → NamedThere table arena k
named_there table arena k w =
    let d = definition_named Long (bytes_on table arena k) 0 w.read in
    record { same = ap (λ (r : Read Definition). (value_or no_definition r).front.name) w.read ∙ d.0; inside = d.1 }

-- the slot k is resident under a name
abbrev pub named_on : List ℕ → List ℕ → List ℕ → ℕ → Bool
named_on table arena name k = both (resident_on table k) (same_name (name_on table arena k) name)

-- a search for the resident of a name: one step, and the end
module _ (table arena : List ℕ) (name : List ℕ) where
  pub resident_turn : (k : ℕ) → k < slot_count
      → resident_from k name (drop k (slots_on table arena)) ≡ pick (named_on table arena name k) k (resident_from (k + 1) name (drop (k + 1) (slots_on table arena)))
  unfolding resident_from
  resident_turn k h = ap (λ (l : List Slot). resident_from k name l) (slot-at table arena k h)

  pub resident_end : (k : ℕ) → slot_count ≤ k → resident_from k name (drop k (slots_on table arena)) ≡ k
  unfolding resident_from
  resident_end k h = ap (λ (l : List Slot). resident_from k name l) (slots_end table arena k h)

-- the marks with those of residents that have a name
pub record MarkedMore (table arena name : List ℕ) (marks after : List Bool) : Type 0 where
  pub size : length after ≡ slot_count
  pub each : (k : ℕ) → k < slot_count → get_or after k false ≡ either (get_or marks k false) (named_on table arena name k)

-- the marks of the slots before k are made
pub record Marking (table arena name : List ℕ) (marks : List Bool) (k : ℕ) (now : List Bool) : Type 0 where
  pub most : k ≤ slot_count
  pub size : length now ≡ slot_count
  pub before : (j : ℕ) → j < k → get_or now j false ≡ either (get_or marks j false) (named_on table arena name j)
  pub behind : (j : ℕ) → k ≤ j → get_or now j false ≡ get_or marks j false

or_false : (b : Bool) → either b false ≡ b
or_false true = refl
or_false false = refl

or_true : (b : Bool) → either b true ≡ true
or_true true = refl
or_true false = refl

module _ (table arena name : List ℕ) (marks : List Bool) (k : ℕ) (now : List Bool) (m : Marking table arena name marks k now) (less : k < slot_count) where
  pub marking_set : named_on table arena name k ≡ true → Marking table arena name marks (k + 1) (set now k true)
  marking_set e =
      let size = m.size in
      record {
        most = omega arith;
        size = length-set now k true ∙ m.size;
        before = λ j h. by j h (eqb j k) refl;
        behind = λ j h. get_or-set_other now k j true false (λ q. omega arith) ∙ m.behind j (omega arith);
      }
    where
      by : (j : ℕ) → j < k + 1 → (b : Bool) → eqb j k ≡ b → get_or (set now k true) j false ≡ either (get_or marks j false) (named_on table arena name j)
      by j h true q =
          let same : j ≡ k = eqb-true j k q in
          let size = m.size in
          rw (same, get_or-set_same now k true false (omega arith), e) (sym (or_true (get_or marks k false)))
      by j h false q =
          get_or-set_other now k j true false (eqb-false j k q) ∙ m.before j (omega (arith, eqb-false j k q))

  pub marking_skip : named_on table arena name k ≡ false → Marking table arena name marks (k + 1) now
  marking_skip e = record {
    most = omega arith;
    size = m.size;
    before = λ j h. by j h (eqb j k) refl;
    behind = λ j h. m.behind j (omega arith);
  }
    where
      by : (j : ℕ) → j < k + 1 → (b : Bool) → eqb j k ≡ b → get_or now j false ≡ either (get_or marks j false) (named_on table arena name j)
      by j h true q =
          let same : j ≡ k = eqb-true j k q in
          rw (same, e) (m.behind k (omega arith) ∙ sym (or_false (get_or marks k false)))
      by j h false q = m.before j (omega (arith, eqb-false j k q))
