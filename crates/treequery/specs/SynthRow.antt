-- A synth's row: its number and -1, its definition's name, its controls one by one.
use Prim.Native.Nat.{ℕ, suc, ◌+◌, ◌*◌, ◌≤◌, ◌<◌}
use Rattle.std.specs.Prelude.{Bool, ◌≡◌}
use Rattle.std.proofs.Math.Bool.{true, false}
use Rattle.std.proofs.Math.Path.{sym, ap, ap₂}
use Rattle.std.proofs.Common.{◌∙◌, drop_of_length-le, drop-cons}
use mathlib.Core.List.{List, [], ◌∷◌, ◌++◌}
use Rattle.std.proofs.Math.Option.{Option}
use native.Mathlib.Omega.{arith}
use Rattle.std.proofs.Math.ListN.{length, drop, get_or}
use Rattle.format.specs.Fields.{string_at}
use Rattle.format.specs.Definition.{ParameterName, Front, Definition}
use Rattle.readable.specs.Readable.{Readable, whole_readable, parts, name_fact}
use Rattle.readable.specs.Labels.{label_at}
use Rattle.nodes.specs.Place.{is_group}
use Rattle.nodes.specs.Structure.{no_node}
use Rattle.osc.specs.Message.{Argument, int, text}
use Rattle.values.specs.Controls.{ControlValue}
use Rattle.values.specs.ControlLaws.{word_mapping}
use Rattle.model.specs.Layout.{bus_count, row_words, controls_in, record_in}
use Rattle.format.specs.Names.{first_name}
use Rattle.model.specs.Engine.{decode, definition_of, controls_of}
use Rattle.model.specs.Replies.{mapping_argument, label_argument, control_arguments, flagged, no_control}
use Rattle.controls.specs.Encoded.{front_in, values_few}
use Rattle.slots.specs.Slots.{slot_bytes}
use Rattle.controls.specs.Ready.{bytes_short}
use Rattle.controls.specs.Asked.{control_in, control-in}
use Rattle.queries.specs.Held.{At, held_readable, held_name, held_front, held_first_name}
use Rattle.treequery.specs.declared.piece.Piece.{Piece}
use Rattle.treequery.specs.Pieces.{piece_argument, is_small, most_bytes}
use Rattle.treequery.specs.RowArguments.{row_arguments, row_synth, controls_many, controls_length, mapping_low}
use Rattle.treequery.specs.Shown.{Shown}
use Rattle.treequery.specs.Shapes.{label_in, Shape}

-- controls from an index on: one, and the rest
module _ (j : ℕ) (names : List ParameterName) (l : List ControlValue) where
  controls_first : j < length l
      → control_arguments j names (drop j l)
      ≡ label_argument (first_name j names) j ∷ (mapping_argument (get_or l j no_control).mapping (get_or l j no_control).own ∷ control_arguments (j + 1) names (drop (j + 1) l))
  unfolding control_arguments
  controls_first h =
      let one : j + 1 ≡ suc j = omega arith in
      let there : drop j l ≡ get_or l j no_control ∷ drop (j + 1) l = rw one (drop-cons l j no_control h) in
      ap (control_arguments j names) there

  controls_last : length l ≤ j → control_arguments j names (drop j l) ≡ []
  unfolding control_arguments
  controls_last h = ap (control_arguments j names) (drop_of_length-le l {i = j} h)

-- the controls of a synth's row, from the index j on
module _ (ws bs : List ℕ) (i : ℕ) where
  abbrev d : Definition
  d = definition_of (decode ws bs).slots (record_in ws i)

  abbrev cs : List ControlValue
  cs = controls_of (decode ws bs).slots (controls_in ws) (record_in ws i)

  unfoldable pub controls_left : ℕ → List Argument
  controls_left j = control_arguments j d.front.names (drop j cs)

  -- what a row shows of the controls
  unfoldable pub controls_shown : Bool → List Argument
  controls_shown shown = flagged shown d cs

-- a synth, by the bytes of its definition
module _ (ws bs : List ℕ) (i : ℕ) (a : At ws bs i) (single : is_group (record_in ws i) ≡ false) where
  abbrev s : List ℕ
  s = slot_bytes ws bs (record_in ws i).slot

  front : (d ws bs i).front ≡ front_in s
  front = held_front ws bs i a single

  many : length (cs ws bs i) ≡ length (front_in s).values
  many = controls_many (length (d ws bs i).front.values) (drop (row_words * (record_in ws i).row) (controls_in ws)) ∙ ap (λ (f : Front). length f.values) front

  pub synth_short : length s ≤ most_bytes
  synth_short = omega (arith, bytes_short ws bs (record_in ws i).slot)

  pub synth_few : length (front_in s).values ≤ 32
  synth_few = values_few s

  pub synth_readable : Readable s
  synth_readable = whole_readable s (held_readable ws bs i a single)

  -- its name is the string at the first byte
  title : (d ws bs i).front.name ≡ string_at s 0
  title = sym (held_name ws bs i a single) ∙ sym (name_fact s synth_readable)

  pub title_within : 0 + 1 + get_or s 0 0 ≤ length s
  title_within = let w = parts s synth_readable.reads in omega (arith, w.named, w.within)

  pub synth_row : (shown : Bool) (end : ℕ)
      → row_arguments shown ws bs end i ≡ int (record_in ws i).number ∷ (int no_node ∷ (text (string_at s 0) ∷ controls_shown ws bs i shown))
  unfolding controls_shown
  synth_row shown end =
      row_synth shown ws bs end i single
      ∙ ap (λ (n : List ℕ). int (record_in ws i).number ∷ (int no_node ∷ (text n ∷ controls_shown ws bs i shown))) title

  -- a synth's row: its number and -1, its definition's name, what it shows of its controls
  pub synth_pair : (shown : Bool) (end n : ℕ) → n ≡ (record_in ws i).number
      → row_arguments shown ws bs end i ≡ (int n ∷ (int no_node ∷ [])) ++ (text (string_at s 0) ∷ controls_shown ws bs i shown)
  synth_pair shown end n e = synth_row shown end ∙ ap (λ (m : ℕ). int m ∷ (int no_node ∷ (text (string_at s 0) ∷ controls_shown ws bs i shown))) (sym e)

  pub synth_turn : (shown : Bool) (end n : ℕ) (definition : List ℕ) (p : Piece) → n ≡ (record_in ws i).number → definition ≡ s → piece_argument definition p ≡ text (string_at definition 0)
      → row_arguments shown ws bs end i ≡ (int n ∷ (int no_node ∷ [])) ++ (piece_argument definition p ∷ controls_shown ws bs i shown)
  synth_turn shown end n definition p e b h =
      synth_pair shown end n e
      ∙ ap (λ (x : Argument). int n ∷ (int no_node ∷ (x ∷ controls_shown ws bs i shown))) (sym (h ∙ ap (λ (l : List ℕ). text (string_at l 0)) b))

  pub synth_hidden : (shown : Bool) → shown ≡ false → controls_shown ws bs i shown ≡ []
  unfolding controls_shown
  synth_hidden shown e = rw e

  pub controls-shown : controls_shown ws bs i true ≡ int (length (front_in s).values) ∷ controls_left ws bs i 0
  unfolding controls_shown controls_left
  controls-shown = ap (λ (k : ℕ). int k ∷ controls_left ws bs i 0) many

  pub controls_done : (j : ℕ) → length (front_in s).values ≤ j → controls_left ws bs i j ≡ []
  unfolding controls_left
  controls_done j h = controls_last j (d ws bs i).front.names (cs ws bs i) (omega (arith, many))

  pub control_small : (j : ℕ) (p : Piece) → j < length (front_in s).values → Shown (control_in (controls_in ws) (record_in ws i).row j) p → is_small p ≡ true
  control_small j p h value =
      let word : get_or (controls_in ws) (row_words * (record_in ws i).row + 2 * j + 1) 0 ≤ bus_count = mapping_low ws bs i j a single (rw front h) in
      value.small (rw (word_mapping (get_or (controls_in ws) (row_words * (record_in ws i).row + 2 * j + 1) 0) (omega arith)) word)

  -- a control: its label, and what it shows
  pub control_left : (table : List ℕ) (j : ℕ) → Shape s (record_in ws i).slot table → j < length (front_in s).values
      → controls_left ws bs i j
      ≡ label_argument (label_at s (label_in table (record_in ws i).slot j)) j
      ∷ (mapping_argument (control_in (controls_in ws) (record_in ws i).row j).mapping (control_in (controls_in ws) (record_in ws i).row j).own ∷ controls_left ws bs i (j + 1))
  unfolding controls_left
  control_left table j shape h =
      let low : j < 32 = omega (arith, synth_few) in
      let name : first_name j (d ws bs i).front.names ≡ label_at s (label_in table (record_in ws i).slot j) =
      sym (held_first_name ws bs i a single j) ∙ shape.named j low in
      let control : get_or (cs ws bs i) j no_control ≡ control_in (controls_in ws) (record_in ws i).row j =
      control-in (length (d ws bs i).front.values) (controls_in ws) (record_in ws i).row j (rw front h) in
      controls_first j (d ws bs i).front.names (cs ws bs i) (omega (arith, many))
      ∙ ap₂ (λ (o : Option (List ℕ)) (v : ControlValue). label_argument o j ∷ (mapping_argument v.mapping v.own ∷ controls_left ws bs i (j + 1))) name control

  pub synth-length : (shown : Bool) (end : ℕ) → length (row_arguments shown ws bs end i) ≤ 68
  unfolding controls_shown
  synth-length shown end = rw (synth_row shown end) (go shown)
    where
      go : (b : Bool) → length (int (record_in ws i).number ∷ (int no_node ∷ (text (string_at s 0) ∷ controls_shown ws bs i b))) ≤ 68
      go true = omega (arith, controls_length 0 (d ws bs i).front.names (cs ws bs i), many, synth_few)
      go false = omega arith
