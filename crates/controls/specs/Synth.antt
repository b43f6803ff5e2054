-- A change of one synth's controls, by its definition's encoded bytes.
use Rattle.std.specs.Prelude.{ℕ, suc, ◌+◌, ◌-◌, ◌*◌, ◌<◌, true, false, ◌≡◌, List, ◌++◌, length, take, drop, get_or, leb}
use Rattle.std.proofs.Common.{sym, ap, ◌∙◌, arith, take-append-drop, get_or-drop, drop-drop, eq-eqb, ne_eqb}
use Rattle.words.specs.Choice.{pick, both}
use Rattle.readable.specs.Readable.{Readable}
use Rattle.nodes.specs.Place.{group_slot, is_group}
use Rattle.nodes.specs.Formed.{most_nodes, most_rows}
use Rattle.values.specs.declared.Key.{Key}
use Rattle.values.specs.Controls.{ControlValue}
use Rattle.model.specs.Layout.{slot_count, bus_count, nodes_place, nodes_words, controls_place, controls_words, controls_in, put_controls, words_length, arena_length, record_in}
use Rattle.model.specs.Meaning.{cover_of}
use Rattle.model.specs.Formed.{mappings_formed}
use Rattle.model.specs.Effects.{change_covered}
use Rattle.nodes.specs.Table.{width, slot_field, row_field}
use Rattle.controls.specs.Encoded.{front_only}
use Rattle.slots.specs.Slots.{slot_bytes, part_word}
use Rattle.names.specs.Records.{slot_word}

-- the controls of the row, by a definition's bytes
abbrev pub change_synth : (ControlValue → ControlValue) → Key → List ℕ → ℕ → ℕ → List ℕ → List ℕ → List ℕ
change_synth f key name count row s cs = change_covered f (cover_of key name (front_only s)) row count cs

-- of the node at a place of the table
abbrev pub change_node : (ControlValue → ControlValue) → Key → List ℕ → ℕ → List ℕ → List ℕ → ℕ → List ℕ → List ℕ
change_node f key name count ws arena i cs =
    pick (is_group (record_in ws i)) cs (change_synth f key name count (record_in ws i).row (slot_bytes ws arena (record_in ws i).slot) cs)

-- the words' sizes, that the slot and the row of the synth at a place are there, and that its definition is readable
pub record Bounds (ws arena : List ℕ) (i : ℕ) : Type 0 where
  pub size : length ws ≡ words_length
  pub arena_size : length arena ≡ arena_length
  pub place : i < most_nodes
  pub slot : is_group (record_in ws i) ≡ false → (record_in ws i).slot < slot_count
  pub row : is_group (record_in ws i) ≡ false → (record_in ws i).row < most_rows
  pub readable : is_group (record_in ws i) ≡ false → Readable (slot_bytes ws arena (record_in ws i).slot)

-- the mapping words of a row: one more, and the end
pub mappings_turn : (us : List ℕ) (n i : ℕ) → i < n → mappings_formed (n - i) (drop (2 * i) us) ≡ both (leb (get_or us (2 * i + 1) 0) bus_count) (mappings_formed (n - (i + 1)) (drop (2 * (i + 1)) us))
unfolding mappings_formed
mappings_turn us n i h =
    let more : n - i ≡ suc (n - (i + 1)) = omega arith in
    let next : 2 * i + 2 ≡ 2 * (i + 1) = omega arith in
    rw (more, get_or-drop (2 * i) us 1 0, drop-drop 2 (2 * i) us, next)

pub mappings_none : (us : List ℕ) (n : ℕ) → n ≡ 0 → mappings_formed n us ≡ true
unfolding mappings_formed
mappings_none us n e = rw e

-- a synth's slot and row, by the words
module _ (ws : List ℕ) (i : ℕ) (few : i < most_nodes) where
  pub row_word : (record_in ws i).row ≡ get_or ws (nodes_place + width * i + row_field) 0
  row_word =
      let place : nodes_place + (width * i + row_field) ≡ nodes_place + width * i + 4 = omega arith in
      part_word nodes_place nodes_words (width * i + row_field) ws (omega arith) ∙ ap (λ (k : ℕ). get_or ws k 0) place

  pub is-group : get_or ws (nodes_place + width * i + slot_field) 0 ≡ group_slot → is_group (record_in ws i) ≡ true
  is-group e = eq-eqb (record_in ws i).slot group_slot (slot_word ws i few ∙ e)

  pub is-synth : (get_or ws (nodes_place + width * i + slot_field) 0 ≡ group_slot → ⊥) → is_group (record_in ws i) ≡ false
  is-synth other = ne_eqb (record_in ws i).slot group_slot (λ e. other (sym (slot_word ws i few) ∙ e))

-- the bounds of a synth, by the words
module _ {ws arena : List ℕ} {i : ℕ} (b : Bounds ws arena i) (other : get_or ws (nodes_place + width * i + slot_field) 0 ≡ group_slot → ⊥) where
  pub slot_bound : get_or ws (nodes_place + width * i + slot_field) 0 < slot_count
  slot_bound = rw (sym (slot_word ws i b.place)) (b.slot (is-synth ws i b.place other))

-- the controls put back as they were
pub same_controls : (ws : List ℕ) → put_controls (controls_in ws) ws ≡ ws
same_controls ws =
    ap (λ (l : List ℕ). take controls_place ws ++ l) (take-append-drop controls_words (drop controls_place ws)) ∙ take-append-drop controls_place ws
