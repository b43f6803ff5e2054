-- What is asked of a node's controls: whether they are there, and what reading one gives.
use Prim.{Unit}
use Rattle.std.specs.Prelude as prelude
use Rattle.std.specs.Prelude.{Result, Err, Some, None, ℕ, zero, suc, ◌+◌, ◌*◌, ◌≤◌, ◌<◌, Bool, true, false, not, ◌≡◌, refl, List, length, drop, get_or, leb}
use Rattle.std.proofs.lemmas.Bool.{false≢true, not-false, lt-leb}
use Rattle.std.proofs.Common.{sym, ap, ap₂, ◌∙◌, arith, leb-true, get_or-drop}
use Rattle.std.proofs.Math.Option.{Option, none, some}
use Rattle.words.specs.Choice.{pick, either}
use Rattle.words.specs.ChoiceLaws.{either_false}
use Rattle.format.specs.Definition.{Front, Definition}
use Rattle.format.specs.Names.{Covered}
use Rattle.format.specs.Reader.{most_parameters}
use Rattle.nodes.specs.declared.Node.{Node}
use Rattle.nodes.specs.Place.{is_group}
use Rattle.values.specs.declared.Key.{Key}
use Rattle.values.specs.declared.Key.TheVariants.{Index, Name}
use Rattle.values.specs.Controls.{ControlValue, control_at, shown_by}
use Rattle.model.specs.Layout.{row_words, count_in, controls_in, buses_in, record_in}
use Rattle.model.specs.Engine.{Slot, decode, definition_of, controls_from, controls_of}
use Rattle.model.specs.Meaning.{first_negative, is_negative, negative_key, cover_of, has_controls, past_width}
use Rattle.model.specs.Replies.{no_control, read_at}
use Rattle.readable.specs.declared.cover.Cover.{Cover}
use Rattle.readable.specs.Lookup.{cover_at}
use Rattle.refusals.specs.declared.Refusal.{Refusal}
use Rattle.refusals.specs.declared.Refusal.TheVariants.{NoControl}
use Rattle.controls.specs.Encoded.{front_in, front_only, values_few, cover_front}
use Rattle.controls.specs.Cover.{asked_by, asked_in, Bounded, bounded, one_covered}
use Rattle.slots.specs.Slots.{slot_bytes}
use Rattle.controls.specs.Ready.{Ready, either_true, synth_ready}

-- refusal 21's test on a node
abbrev pub controls_missing : Key → ℕ → List ℕ → List Slot → Node → Bool
controls_missing key count name slots r =
    either (either (negative_key key) (is_negative count))
    (pick (is_group r) false (not (has_controls (cover_of key name (definition_of slots r)) count (definition_of slots r))))

-- refusal 28's
abbrev pub controls_past : Key → ℕ → List ℕ → List Slot → Node → Bool
controls_past key count name slots r = pick (is_group r) false (past_width (cover_of key name (definition_of slots r)) count)

-- the one behind the other
abbrev pub controls_asked : Key → ℕ → List ℕ → List Slot → Node → Result (Unit {0}) Refusal
controls_asked key count name slots r = asked_by (controls_missing key count name slots r) (controls_past key count name slots r)

-- a synth lacks a negative index, and a negative number of controls
negative_lacks : (key : Key) (name : List ℕ) (count : ℕ) (d : Definition) → length d.front.values ≤ most_parameters
    → either (either (negative_key key) (is_negative count)) (not (has_controls (cover_of key name d) count d)) ≡ not (has_controls (cover_of key name d) count d)
negative_lacks key name count d few = go (has_controls (cover_of key name d) count d) refl
  where
    at_most : (i : ℕ) → leb (i + count) (length d.front.values) ≡ true → i + count ≤ most_parameters
    at_most i h = omega (arith, leb-true (i + count) (length d.front.values) h)

    none_negative : (key : Key) → has_controls (cover_of key name d) count d ≡ true → either (negative_key key) (is_negative count) ≡ false
    none_negative (Index i) h = rw (lt-leb first_negative i (omega (arith, at_most i h)), lt-leb first_negative count (omega (arith, at_most i h)))
    none_negative Name h = named (cover_of Name name d) h
      where
        named : (o : Option Covered) → has_controls o count d ≡ true → is_negative count ≡ false
        named none k = absurd (false≢true k)
        named (some c) k = lt-leb first_negative count (omega (arith, at_most c.index k))

    go : (b : Bool) → has_controls (cover_of key name d) count d ≡ b → either (either (negative_key key) (is_negative count)) (not b) ≡ not b
    go true h = rw (none_negative key h)
    go false h = either_true (either (negative_key key) (is_negative count))

-- one control that is there is not past the width
pub one_there : (key : Key) (name : List ℕ) (slots : List Slot) (r : Node) → controls_missing key 1 name slots r ≡ false → controls_past key 1 name slots r ≡ false
one_there key name slots r h = go (is_group r) (either_false (either (negative_key key) (is_negative 1)) _ h).1
  where
    d : Definition
    d = definition_of slots r

    go : (b : Bool) → pick b false (not (has_controls (cover_of key name d) 1 d)) ≡ false → pick b false (past_width (cover_of key name d) 1) ≡ false
    go true k = refl
    go false k = one_covered key name d (not-false (has_controls (cover_of key name d) 1 d) k)

-- the test of 21 alone
abbrev pub is_missing : Result (Unit {0}) Refusal → Bool
is_missing (Err NoControl) = true
is_missing _ = false

pub missing_not : (missing past : Bool) (x : Refusal) → Err x ≡ asked_by missing past → (x ≡ NoControl → ⊥) → false ≡ missing
missing_not true past x e n = absurd (n cc)
missing_not false past x e n = refl

pub missing_asked : (missing past : Bool) → is_missing (asked_by missing past) ≡ missing
missing_asked true past = refl
missing_asked false true = refl
missing_asked false false = refl

-- the control of a row at an index
abbrev pub control_in : List ℕ → ℕ → ℕ → ControlValue
control_in cs row i = control_at (get_or cs (row_words * row + 2 * i) 0) (get_or cs (row_words * row + 2 * i + 1) 0)

-- each of so many controls, and none past them
pub control-of : (n : ℕ) (us : List ℕ) (i : ℕ) → i < n → get_or (controls_from n us) i no_control ≡ control_at (get_or us (2 * i) 0) (get_or us (2 * i + 1) 0)
unfolding controls_from
control-of zero us i h = absurd (omega arith)
control-of (suc n) us zero h = refl
control-of (suc n) us (suc i) h =
    let own : 2 + 2 * i ≡ 2 * suc i = omega arith in
    let mapping : 2 + (2 * i + 1) ≡ 2 * suc i + 1 = omega arith in
    control-of n (drop 2 us) i (omega arith)
    ∙ ap₂ (λ (x y : ℕ). control_at x y) (get_or-drop 2 us (2 * i) 0 ∙ ap (λ (k : ℕ). get_or us k 0) own) (get_or-drop 2 us (2 * i + 1) 0 ∙ ap (λ (k : ℕ). get_or us k 0) mapping)

pub control_past : (n : ℕ) (us : List ℕ) (i : ℕ) → n ≤ i → get_or (controls_from n us) i no_control ≡ no_control
unfolding controls_from
control_past zero us i h = refl
control_past (suc n) us zero h = absurd (omega arith)
control_past (suc n) us (suc i) h = control_past n (drop 2 us) i (omega arith)

pub control-in : (n : ℕ) (cs : List ℕ) (row i : ℕ) → i < n → get_or (controls_from n (drop (row_words * row) cs)) i no_control ≡ control_in cs row i
control-in n cs row i h =
    let mapping : row_words * row + (2 * i + 1) ≡ row_words * row + 2 * i + 1 = omega arith in
    control-of n (drop (row_words * row) cs) i h
    ∙ ap₂ (λ (x y : ℕ). control_at x y) (get_or-drop (row_words * row) cs (2 * i) 0) (get_or-drop (row_words * row) cs (2 * i + 1) 0 ∙ ap (λ (k : ℕ). get_or cs k 0) mapping)

-- of a synth at a place of the table, by its definition's bytes
module _ (ws arena : List ℕ) (ready : Ready ws arena) (i : ℕ) (few : i < count_in ws) (single : is_group (record_in ws i) ≡ false) where
  front : (definition_of (decode ws arena).slots (record_in ws i)).front ≡ front_in (slot_bytes ws arena (record_in ws i).slot)
  front = (synth_ready ws arena ready i few single).front

  pub synth-cover : (key : Key) (name : List ℕ)
      → cover_of key name (definition_of (decode ws arena).slots (record_in ws i)) ≡ cover_of key name (front_only (slot_bytes ws arena (record_in ws i).slot))
  synth-cover key name = cover_front key name (definition_of (decode ws arena).slots (record_in ws i)) (front_only (slot_bytes ws arena (record_in ws i).slot)) front

  pub synth_many : length (definition_of (decode ws arena).slots (record_in ws i)).front.values ≡ length (front_in (slot_bytes ws arena (record_in ws i).slot)).values
  synth_many = ap (λ (f : Front). length f.values) front

  has_front : (o : Option Covered) (count : ℕ) (d e : Definition) → d.front ≡ e.front → has_controls o count d ≡ has_controls o count e
  has_front none count d e h = refl
  has_front (some c) count d e h = ap (λ (f : Front). leb (c.index + count) (length f.values)) h

  pub synth-asked : (key : Key) (name : List ℕ) (count : ℕ)
      → controls_asked key count name (decode ws arena).slots (record_in ws i)
      ≡ asked_in (cover_of key name (front_only (slot_bytes ws arena (record_in ws i).slot))) count (front_only (slot_bytes ws arena (record_in ws i).slot))
  synth-asked key name count =
      let d = definition_of (decode ws arena).slots (record_in ws i) in
      let e = front_only (slot_bytes ws arena (record_in ws i).slot) in
      rw single
      (ap (λ (b : Bool). asked_by b (past_width (cover_of key name d) count)) (negative_lacks key name count d (rw synth_many (values_few (slot_bytes ws arena (record_in ws i).slot))))
      ∙ ap (λ (o : Option Covered). asked_in o count d) (synth-cover key name)
      ∙ ap (λ (b : Bool). asked_by (not b) (past_width (cover_of key name e) count)) (has_front (cover_of key name e) count d e front))

  -- by the lookup's answer: what is asked, and what reading a control gives
  module _ (key : Key) (name : List ℕ) (o : prelude.Option Cover) (said : cover_at o ≡ cover_of key name (front_only (slot_bytes ws arena (record_in ws i).slot))) where
    pub cover-asked : (count : ℕ) → asked_in (cover_at o) count (front_only (slot_bytes ws arena (record_in ws i).slot)) ≡ controls_asked key count name (decode ws arena).slots (record_in ws i)
    cover-asked count = ap (λ (o : Option Covered). asked_in o count (front_only (slot_bytes ws arena (record_in ws i).slot))) said ∙ sym (synth-asked key name count)

    abbrev reading : ℕ
    reading = read_at (buses_in ws) (controls_of (decode ws arena).slots (controls_in ws) (record_in ws i)) (cover_of key name (definition_of (decode ws arena).slots (record_in ws i)))

    same : reading ≡ read_at (buses_in ws) (controls_of (decode ws arena).slots (controls_in ws) (record_in ws i)) (cover_at o)
    same = ap (read_at (buses_in ws) (controls_of (decode ws arena).slots (controls_in ws) (record_in ws i))) (synth-cover key name ∙ sym said)

    pub read_none : o ≡ None → reading ≡ 0
    read_none e = same ∙ rw e

    module _ (c : Cover) (found : o ≡ Some c) where
      there : Bounded (length (definition_of (decode ws arena).slots (record_in ws i)).front.values) (record { index = c.index; width = c.width })
      there = rw synth_many (bounded key name (front_only (slot_bytes ws arena (record_in ws i).slot)) (record { index = c.index; width = c.width }) (sym said ∙ ap cover_at found))

      pub read_past : c.width ≡ 0 → reading ≡ 0
      read_past e =
          same
          ∙ rw found
          (ap (shown_by (buses_in ws)) (control_past (length (definition_of (decode ws arena).slots (record_in ws i)).front.values) (drop (row_words * (record_in ws i).row) (controls_in ws)) c.index (there.past e)))

      pub read_there : 0 < c.width → reading ≡ shown_by (buses_in ws) (control_in (controls_in ws) (record_in ws i).row c.index)
      read_there h =
          same
          ∙ rw found
          (ap (shown_by (buses_in ws)) (control-in (length (definition_of (decode ws arena).slots (record_in ws i)).front.values) (controls_in ws) (record_in ws i).row c.index (omega (arith, there.ends h))))
