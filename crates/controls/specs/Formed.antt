-- The state check's part on controls, node by node.
use Rattle.std.specs.Prelude.{ℕ, ◌+◌, ◌*◌, ◌≤◌, ◌<◌, Bool, true, false, ◌≡◌, refl, List, length, drop}
use Rattle.std.proofs.Math.Path.{ap}
use Rattle.std.proofs.Common.{◌∙◌, arith}
use Rattle.words.specs.Choice.{pick, both}
use Rattle.words.specs.Parts.{region}
use Rattle.format.specs.Definition.{Front}
use Rattle.format.specs.Reader.{most_parameters}
use Rattle.readable.specs.Readable.{whole_readable}
use Rattle.nodes.specs.TableLaws.{row-from, rows_end}
use Rattle.nodes.specs.Place.{is_group}
use Rattle.model.specs.Layout.{nodes_place, nodes_words, row_words, count_in, nodes_in, controls_in, record_in}
use Rattle.model.specs.Engine.{decode, definition_of}
use Rattle.model.specs.Formed.{mappings_formed, controls_formed}
use Rattle.controls.specs.Encoded.{front_in, values_few}
use Rattle.slots.specs.Slots.{slot_bytes}
use Rattle.controls.specs.Ready.{Ready, synth_ready}
use Rattle.controls.specs.Synth.{Bounds}
use Rattle.controls.specs.Cover.{controls_on}

-- a row's mapping words, by a definition's bytes
abbrev pub row_formed : List ℕ → ℕ → List ℕ → Bool
row_formed s row cs = mappings_formed (length (front_in s).values) (drop (row_words * row) cs)

-- of the node at a place of the table
abbrev pub node_formed : List ℕ → List ℕ → ℕ → Bool
node_formed ws arena i = pick (is_group (record_in ws i)) true (row_formed (slot_bytes ws arena (record_in ws i).slot) (record_in ws i).row (controls_in ws))

-- a run of the table: one node more, and the end
module _ (ws arena : List ℕ) (ready : Ready ws arena) where
  same_test : (i : ℕ) → i < count_in ws → (b : Bool) → is_group (record_in ws i) ≡ b
      → pick b true (mappings_formed (length (definition_of (decode ws arena).slots (record_in ws i)).front.values) (drop (row_words * (record_in ws i).row) (controls_in ws)))
      ≡ pick b true (row_formed (slot_bytes ws arena (record_in ws i).slot) (record_in ws i).row (controls_in ws))
  same_test i few true e = refl
  same_test i few false e =
      ap (λ (f : Front). mappings_formed (length f.values) (drop (row_words * (record_in ws i).row) (controls_in ws))) (synth_ready ws arena ready i few e).front

  pub formed_turn : (i : ℕ) → i < count_in ws
      → controls_formed (decode ws arena).slots (controls_in ws) (drop i (nodes_in ws))
      ≡ both (node_formed ws arena i) (controls_formed (decode ws arena).slots (controls_in ws) (drop (i + 1) (nodes_in ws)))
  unfolding controls_formed
  formed_turn i few =
      ap (controls_formed (decode ws arena).slots (controls_in ws)) (row-from (count_in ws) (region nodes_place nodes_words ws) i few)
      ∙ ap (λ (b : Bool). both b (controls_formed (decode ws arena).slots (controls_in ws) (drop (i + 1) (nodes_in ws)))) (same_test i few (is_group (record_in ws i)) refl)

  pub formed_end : (i : ℕ) → count_in ws ≤ i → controls_formed (decode ws arena).slots (controls_in ws) (drop i (nodes_in ws)) ≡ true
  unfolding controls_formed
  formed_end i h = ap (controls_formed (decode ws arena).slots (controls_in ws)) (rows_end (count_in ws) (region nodes_place nodes_words ws) i h)

  pub bounds_ready : (i : ℕ) → i < count_in ws → Bounds ws arena i
  bounds_ready i few =
      record {
        size = ready.size;
        arena_size = ready.arena_size;
        place = omega (arith, ready.few);
        slot = λ e. (synth_ready ws arena ready i few e).slot;
        row = λ e. (synth_ready ws arena ready i few e).row;
        readable = λ e. whole_readable (slot_bytes ws arena (record_in ws i).slot) (synth_ready ws arena ready i few e).whole;
      }

  -- a synth at a place
  pub record Here (i : ℕ) : Type 0 where
    pub bounds : Bounds ws arena i
    pub few : controls_on ws arena (record_in ws i).slot ≤ most_parameters
    pub test : node_formed ws arena i ≡ mappings_formed (controls_on ws arena (record_in ws i).slot) (drop (row_words * (record_in ws i).row) (controls_in ws))

  pub synth_here : (i : ℕ) → i < count_in ws → is_group (record_in ws i) ≡ false → Here i
  synth_here i few single = record {
    bounds = bounds_ready i few;
    few = values_few (slot_bytes ws arena (record_in ws i).slot);
    test = ap (λ (b : Bool). pick b true (row_formed (slot_bytes ws arena (record_in ws i).slot) (record_in ws i).row (controls_in ws))) single;
  }
