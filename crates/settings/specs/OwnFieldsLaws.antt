-- Laws of `OwnFields`: the settings of a row measured and written one by one.
use Rattle.std.specs.Prelude.{Option, Some, ℕ, suc, ◌+◌, ◌-◌, ◌*◌, ◌≤◌, ◌<◌, Bool, true, false, ◌≡◌, refl, drop, get_or, eqb}
use Rattle.std.proofs.Common.{sym, ap, ◌∙◌, arith, add-zero, zero-add, length-take, length-drop, take-append-drop, drop_of_length-le, drop-drop, get_or-drop, ne_eqb, eqb-true}
use mathlib.Core.List.{List, [], ◌∷◌, ◌++◌, append_assoc, append-nil}
use Rattle.std.proofs.Math.Nat.{sub-zero}
use Rattle.std.proofs.Math.ListN.{length, length-append}
use Rattle.std.proofs.lemmas.Bool.{eqb-false}
use Rattle.words.specs.Parts.{over}
use Rattle.words.specs.Bytes.{bytes16, bytes32}
use Rattle.format.specs.Definition.{Front}
use Rattle.format.specs.Fields.{string_at}
use Rattle.format.specs.Names.{name_for}
use Rattle.format.specs.Reader.{most_parameters, size_limit}
use Rattle.osc.specs.Over.{over_length, over_over, over_first}
use Rattle.readable.specs.Lookup.{parameters_in}
use Rattle.readable.specs.Labels.{label_at}
use Rattle.readable.specs.OwnLabels.{OwnLabelled}
use Rattle.readable.specs.Readable.{Readable, parts}
use Rattle.tagged.specs.Fields.{Field, head_size, write_fields}
use Rattle.tagged.specs.FieldsLaws.{fields_append}
use Rattle.store.specs.Store.{Setting, setting_tag, number_size}
use Rattle.store.specs.Writing.{setting_field, setting_fields}
use Rattle.model.specs.Layout.{control_words}
use Rattle.model.specs.Engine.{controls_from}
use Rattle.settings.specs.Settings.{setting_by, settings_from}
use Rattle.settings.specs.OwnFields.{setting_bytes, taken_from, taken_in, left_in, control_bytes}

settings_append : (a b : List Setting) → setting_fields (a ++ b) ≡ setting_fields a ++ setting_fields b
unfolding setting_fields
settings_append [] b = refl
settings_append (c ∷ a) b = ap (λ (l : List Field). setting_field c ∷ l) (settings_append a b)

setting_bytes_append : (a b : List Setting) → setting_bytes (a ++ b) ≡ setting_bytes a ++ setting_bytes b
setting_bytes_append a b = ap write_fields (settings_append a b) ∙ fields_append (setting_fields a) (setting_fields b)

-- the setting of a control: none, or its head, its name and its float
pub control_none : (s : List ℕ) (place float : ℕ) → place ≡ 0 → control_bytes s place float ≡ []
unfolding setting_fields write_fields
control_none s place float e = rw e

module _ (s : List ℕ) (place float : ℕ) (there : place ≡ 0 → ⊥) where
  abbrev pub name : List ℕ
  name = string_at s place

  pub control-bytes : control_bytes s place float ≡ ((setting_tag ∷ bytes16 (length name + number_size)) ++ name) ++ bytes32 float
  unfolding setting_fields write_fields
  control-bytes =
      let size : length (name ++ bytes32 float) ≡ length name + number_size = length-append name (bytes32 float) in
      rw (ne_eqb place 0 there, append-nil, size) (sym (append_assoc (setting_tag ∷ bytes16 (length name + number_size)) name (bytes32 float)))

  pub control_length : length (control_bytes s place float) ≡ head_size + length name + number_size
  control_length = ap length control-bytes ∙ simp length-append (omega arith)

pub name_short : (s : List ℕ) (place : ℕ) → length (string_at s place) ≤ length s
name_short s place = simp (length-take, length-drop) (omega arith)

-- no setting is longer than a definition, a head and a float together
abbrev pub setting_room : ℕ
setting_room = head_size + size_limit + number_size

pub control_short : (s : List ℕ) (place float : ℕ) → length s ≤ size_limit → length (control_bytes s place float) ≤ setting_room
control_short s place float h = by (eqb place 0) refl
  where
    by : (b : Bool) → eqb place 0 ≡ b → length (control_bytes s place float) ≤ setting_room
    by true e = let nothing : length (control_bytes s place float) ≡ 0 = ap length (control_none s place float (eqb-true place 0 e)) in omega arith
    by false e = omega (arith, control_length s place float (eqb-false place 0 e), name_short s place)

-- a setting written in three pieces, where there is room for it
module _ (s : List ℕ) (place float at : ℕ) (out : List ℕ) (there : place ≡ 0 → ⊥) (room : at + length (control_bytes s place float) ≤ length out)
    (name : List ℕ) (named : name ≡ string_at s place) where
  abbrev head : List ℕ
  head = setting_tag ∷ bytes16 (length name + number_size)

  pub setting_size_is : length (control_bytes s place float) ≡ head_size + length name + number_size
  setting_size_is = control_length s place float there ∙ ap (λ (n : List ℕ). head_size + length n + number_size) (sym named)

  pub name_room : {o : List ℕ} → o ≡ over at head out → at + head_size + length name ≤ length o
  name_room {o} e =
      let size = setting_size_is in
      let same : length o ≡ length out = ap length e ∙ over_length at head out (omega arith) in
      omega arith

  pub float_room : {o o₂ : List ℕ} → o ≡ over at head out → o₂ ≡ over (at + head_size) name o → at + head_size + length name + number_size ≤ length o₂
  float_room {o} {o₂} e e₂ =
      let size = setting_size_is in
      let same : length o ≡ length out = ap length e ∙ over_length at head out (omega arith) in
      let again : length o₂ ≡ length o = ap length e₂ ∙ over_length (at + head_size) name o (name_room e) in
      omega arith

  pub setting_written : {o o₂ o₃ : List ℕ} → o ≡ over at head out → o₂ ≡ over (at + head_size) name o
      → o₃ ≡ over (at + head_size + length name) (bytes32 float) o₂ → o₃ ≡ over at (control_bytes s place float) out
  setting_written {o} {o₂} {o₃} e e₂ e₃ =
      let size = setting_size_is in
      let end : at + head_size + length name ≡ at + length (head ++ name) = rw length-append (omega arith) in
      let two : o₂ ≡ over at (head ++ name) out =
      e₂ ∙ ap (over (at + head_size) name) e ∙ over_over at (at + head_size) head name out refl (omega arith) in
      e₃
      ∙ ap (over (at + head_size + length name) (bytes32 float)) two
      ∙ over_over at (at + head_size + length name) (head ++ name) (bytes32 float) out end (omega arith)
      ∙ ap (λ (n : List ℕ). over at ((setting_tag ∷ bytes16 (length n + number_size)) ++ n ++ bytes32 float) out) named
      ∙ ap (λ (l : List ℕ). over at l out) (sym (control-bytes s place float there))

-- the one that is next, and those behind it
taken_turn : (i : ℕ) (f : Front) (row : List ℕ) → i < length f.values
    → taken_from i f row ≡ setting_by (name_for i f.names) (get_or row (control_words * i) 0) ++ taken_from (i + 1) f row
unfolding settings_from controls_from
taken_turn i f row h =
    let more : length f.values - i ≡ suc (length f.values - (i + 1)) = omega arith in
    let on : control_words * (i + 1) ≡ control_words * i + 2 = omega arith in
    let own : get_or (drop (control_words * i) row) 0 0 ≡ get_or row (control_words * i) 0 = get_or-drop (control_words * i) row 0 0 ∙ rw add-zero in
    rw (more, own, drop-drop 2 (control_words * i) row, on)

taken_none : (i : ℕ) (f : Front) (row : List ℕ) → length f.values ≤ i → taken_from i f row ≡ []
unfolding settings_from controls_from
taken_none i f row h = let none-left : length f.values - i ≡ 0 = omega arith in rw none-left

-- as many controls as the front has values
pub parameters_many : (s : List ℕ) (k : Readable s) (n : ℕ) → Some n ≡ parameters_in s → n ≡ length k.front.values
parameters_many s k n e = let f : ◌≡◌ {A = Option ℕ} (Some n) (Some (length k.front.values)) = rw k.reads at e in cc

module _ (s table : List ℕ) (k : Readable s) (labels : OwnLabelled s table) (row : List ℕ) where
  all_left : left_in 0 s row ≡ taken_in s row
  all_left = rw (k.reads, sub-zero)

  left_turn : (i : ℕ) → i < length k.front.values
      → setting_bytes (left_in i s row) ≡ control_bytes s (get_or table i 0) (get_or row (control_words * i) 0) ++ setting_bytes (left_in (i + 1) s row)
  left_turn i h =
      let few = (parts s k.reads).few in
      let name : name_for i k.front.names ≡ label_at s (get_or table i 0) = rw k.reads at (labels.named i (omega arith)) in
      rw (k.reads, taken_turn i k.front row h, name)
      (setting_bytes_append (setting_by (label_at s (get_or table i 0)) (get_or row (control_words * i) 0)) (taken_from (i + 1) k.front row))

  left_none : (i : ℕ) → length k.front.values ≤ i → setting_bytes (left_in i s row) ≡ []
  unfolding setting_fields write_fields
  left_none i h = rw (k.reads, taken_none i k.front row h)

pub over_nothing : (at : ℕ) (us : List ℕ) → over at [] us ≡ us
over_nothing at us = rw (append-nil, add-zero) (take-append-drop at us)

-- the settings of the controls before i measured: so many bytes, and those that are left
pub record Sizing (s : List ℕ) (count i size : ℕ) : Type 0 where
  pub most : i ≤ count
  pub few : count ≤ most_parameters
  pub small : size ≤ setting_room * i
  pub left : (row : List ℕ) → size + length (setting_bytes (left_in i s row)) ≡ length (setting_bytes (taken_in s row))

-- they are written: what is left, written from a place on, fills the run
pub record Filling (s row : List ℕ) (count i at : ℕ) (out : List ℕ) : Type 0 where
  pub most : i ≤ count
  pub few : count ≤ most_parameters
  pub inside : at + length (setting_bytes (left_in i s row)) ≡ length out
  pub whole : over at (setting_bytes (left_in i s row)) out ≡ setting_bytes (taken_in s row)

module _ (s table : List ℕ) (k : Readable s) (labels : OwnLabelled s table) (count : ℕ) (many : count ≡ length k.front.values) where
  few_controls : count ≤ most_parameters
  few_controls = rw many (parts s k.reads).few

  pub sizing_starts : Sizing s count 0 0
  sizing_starts = record {
    most = omega arith;
    few = few_controls;
    small = omega arith;
    left = λ row. rw zero-add (ap (λ (l : List Setting). length (setting_bytes l)) (all_left s table k labels row));
  }

  module _ (i size : ℕ) (now : Sizing s count i size) where
    pub sizing_turn : i < count → (n : ℕ) → ((float : ℕ) → n ≡ length (control_bytes s (get_or table i 0) float)) → Sizing s count (i + 1) (size + n)
    sizing_turn h n told =
        let short : n ≤ setting_room = rw (told 0) (control_short s (get_or table i 0) 0 k.short) in
        let small = now.small in
        record {
          most = omega arith;
          few = now.few;
          small = omega arith;
          left = λ row.
              let one = control_bytes s (get_or table i 0) (get_or row (control_words * i) 0) in
              let rest = setting_bytes (left_in (i + 1) s row) in
              let turn : length (setting_bytes (left_in i s row)) ≡ length one + length rest =
              ap length (left_turn s table k labels row i (rw (sym many) h)) ∙ length-append one rest in
              let size_of : n ≡ length one = told (get_or row (control_words * i) 0) in
              let before = now.left row in
              omega arith;
        }

    pub sizing_ends : count ≤ i → (row : List ℕ) → size ≡ length (setting_bytes (taken_in s row))
    sizing_ends h row =
        let none-left : length (setting_bytes (left_in i s row)) ≡ 0 = ap length (left_none s table k labels row i (rw (sym many) h)) in
        let before = now.left row in
        omega arith

  module _ (row : List ℕ) where
    pub filling_starts : (out : List ℕ) → length out ≡ length (setting_bytes (taken_in s row)) → Filling s row count 0 0 out
    filling_starts out fits =
        let all = setting_bytes (taken_in s row) in
        let first : setting_bytes (left_in 0 s row) ≡ all = ap setting_bytes (all_left s table k labels row) in
        let past : length out ≤ length all = omega arith in
        record {
          most = omega arith;
          few = few_controls;
          inside = rw (zero-add, first) (sym fits);
          whole =
              ap (λ (l : List ℕ). over 0 l out) first
              ∙ over_first all out
              ∙ ap (λ (l : List ℕ). all ++ l) (drop_of_length-le out {i = length all} past)
              ∙ append-nil all;
        }

    module _ (i at : ℕ) (out : List ℕ) (now : Filling s row count i at out) where
      abbrev pub one : List ℕ
      one = control_bytes s (get_or table i 0) (get_or row (control_words * i) 0)

      pub filling-room : i < count → at + length one ≤ length out
      filling-room h =
          let turn : length (setting_bytes (left_in i s row)) ≡ length one + length (setting_bytes (left_in (i + 1) s row)) =
          ap length (left_turn s table k labels row i (rw (sym many) h)) ∙ length-append one (setting_bytes (left_in (i + 1) s row)) in
          let inside = now.inside in
          omega arith

      pub filling_turn : i < count → Filling s row count (i + 1) (at + length one) (over at one out)
      filling_turn h =
          let rest = setting_bytes (left_in (i + 1) s row) in
          let split = left_turn s table k labels row i (rw (sym many) h) in
          let turn : length (setting_bytes (left_in i s row)) ≡ length one + length rest = ap length split ∙ length-append one rest in
          let room : at + length one ≤ length out = filling-room h in
          let same : length (over at one out) ≡ length out = over_length at one out room in
          let inside = now.inside in
          record {
            most = omega arith;
            few = now.few;
            inside = omega arith;
            whole =
                over_over at (at + length one) one rest out refl (omega arith)
                ∙ ap (λ (l : List ℕ). over at l out) (sym split)
                ∙ now.whole;
          }

      pub filling_ends : count ≤ i → out ≡ setting_bytes (taken_in s row)
      filling_ends h =
          sym (over_nothing at out) ∙ ap (λ (l : List ℕ). over at l out) (sym (left_none s table k labels row i (rw (sym many) h))) ∙ now.whole
