-- A synth's controls, as the code knows them.
use Rattle.std.specs.Prelude.{ℕ, ◌+◌, ◌*◌, ◌≤◌, ◌<◌, true, false, ◌≡◌, List, [], ◌∷◌, length, get_or}
use Rattle.std.proofs.Common.{sym, ap₂, ◌∙◌, arith}
use Rattle.readable.specs.Labels.{label_at}
use Rattle.nodes.specs.Place.{is_group}
use Rattle.osc.specs.Message.{Argument, int}
use Rattle.model.specs.Layout.{controls_in, record_in}
use Rattle.model.specs.Replies.{mapping_argument, label_argument}
use Rattle.controls.specs.Encoded.{front_in}
use Rattle.slots.specs.Slots.{slot_bytes}
use Rattle.controls.specs.Asked.{control_in}
use Rattle.queries.specs.Held.{At, bounds}
use Rattle.treequery.specs.declared.piece.Piece.{Piece}
use Rattle.treequery.specs.declared.shapes.Synth.{Synth}
use Rattle.treequery.specs.Pieces.{piece_argument, is_small, most_bytes}
use Rattle.treequery.specs.Shown.{Shown}
use Rattle.treequery.specs.SynthRow.{controls_left, controls_shown, synth_short, synth_few, controls-shown, controls_done, control_small, control_left}
use Rattle.treequery.specs.Shapes.{shape_words, shapes_length, label_in, Shape}

-- a synth's row, with the shape of its definition
pub record Shaped (ws bs shapes : List ℕ) (i : ℕ) : Type 0 where
  pub at : At ws bs i
  pub single : is_group (record_in ws i) ≡ false
  pub shape : Shape (slot_bytes ws bs (record_in ws i).slot) (record_in ws i).slot shapes

-- the label of a control is a whole string
pub record LabelThere (s shapes : List ℕ) (first j : ℕ) : Type 0 where
  pub low : j < 32
  pub inside : first + shape_words ≤ shapes_length
  pub within : 0 < get_or shapes (first + 1 + j) 0 → get_or shapes (first + 1 + j) 0 + 1 + get_or s (get_or shapes (first + 1 + j) 0) 0 ≤ length s

-- what the control j of a row shows
abbrev pub value_of : List ℕ → ℕ → ℕ → Argument
value_of ws row j = mapping_argument (control_in (controls_in ws) row j).mapping (control_in (controls_in ws) row j).own

-- what the code knows of a synth
pub record SynthAt (ws bs : List ℕ) (i : ℕ) (k : Synth) : Type 0 where
  pub row : k.row ≡ (record_in ws i).row
  pub first : k.first ≡ shape_words * (record_in ws i).slot
  pub many : k.many ≡ length (front_in (slot_bytes ws bs (record_in ws i).slot)).values

-- a synth's controls, as they are counted and written one by one
pub record Controls (ws bs shapes : List ℕ) (i : ℕ) (definition : List ℕ) (row first many : ℕ) : Type 0 where
  pub of : Shaped ws bs shapes i
  pub bytes : definition ≡ slot_bytes ws bs (record_in ws i).slot
  pub row_is : row ≡ (record_in ws i).row
  pub first_is : first ≡ shape_words * (record_in ws i).slot
  pub many_is : many ≡ length (front_in (slot_bytes ws bs (record_in ws i).slot)).values

module _ {ws bs shapes : List ℕ} {i : ℕ} {definition : List ℕ} {row first many : ℕ} (k : Controls ws bs shapes i definition row first many) where
  single : is_group (record_in ws i) ≡ false
  single = k.of.single

  held : At ws bs i
  held = k.of.at

  pub controls_short : length definition ≤ most_bytes
  controls_short = rw k.bytes (synth_short ws bs i held single)

  pub controls_all : controls_shown ws bs i true ≡ int many ∷ controls_left ws bs i 0
  controls_all = rw k.many_is (controls-shown ws bs i held single)

  pub controls_end : (j : ℕ) → many ≤ j → controls_left ws bs i j ≡ []
  controls_end j h = controls_done ws bs i held single j (omega (arith, k.many_is))

  module _ (j : ℕ) (h : j < many) where
    low : j < length (front_in (slot_bytes ws bs (record_in ws i).slot)).values
    low = omega (arith, k.many_is)

    few : j < 32
    few = omega (arith, low, synth_few ws bs i held single)

    pub control_few : j < 32
    control_few = few

    pub control_row : row < 256
    control_row = omega (arith, k.row_is, (bounds ws bs i held).row single)

    pub label_there : LabelThere definition shapes first j
    label_there = record {
      low = few;
      inside = omega (arith, k.first_is, (bounds ws bs i held).slot single);
      within = rw (k.bytes, k.first_is) (k.of.shape.within j few);
    }

    pub control_turn : (p : Piece) → piece_argument definition p ≡ label_argument (label_at definition (get_or shapes (first + 1 + j) 0)) j
        → controls_left ws bs i j ≡ piece_argument definition p ∷ (value_of ws row j ∷ controls_left ws bs i (j + 1))
    control_turn p e =
        let label : label_argument (label_at (slot_bytes ws bs (record_in ws i).slot) (label_in shapes (record_in ws i).slot j)) j ≡ piece_argument definition p =
        sym (e ∙ ap₂ (λ (s : List ℕ) (f : ℕ). label_argument (label_at s (get_or shapes (f + 1 + j) 0)) j) k.bytes k.first_is) in
        control_left ws bs i held single shapes j k.of.shape low
        ∙ ap₂ (λ (x : Argument) (r : ℕ). x ∷ (mapping_argument (control_in (controls_in ws) r j).mapping (control_in (controls_in ws) r j).own ∷ controls_left ws bs i (j + 1))) label (sym k.row_is)

    pub value_small : (p : Piece) → Shown (control_in (controls_in ws) row j) p → is_small p ≡ true
    value_small p v = control_small ws bs i held single j p low (rw k.row_is at v)
