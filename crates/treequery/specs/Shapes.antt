-- What a reply needs of the definitions, looked up once: 33 words for each slot, P + 1 (0 before the slot was looked up) and for each control the
-- place of its label.
use Rattle.std.specs.Prelude.{ℕ, ◌+◌, ◌*◌, ◌≤◌, ◌<◌, false, ◌≡◌, List, length, get_or}
use Rattle.readable.specs.Lookup.{name_of_in}
use Rattle.readable.specs.Labels.{label_at}
use Rattle.nodes.specs.Place.{is_group}
use Rattle.controls.specs.Encoded.{front_in}
use Rattle.slots.specs.Slots.{slot_bytes}
use Rattle.model.specs.Layout.{record_in}

abbrev pub shape_words : ℕ
shape_words = 33

abbrev pub shapes_length : ℕ
shapes_length = 1056

-- the place of the label of a control of the slot k's definition
abbrev pub label_in : List ℕ → ℕ → ℕ → ℕ
label_in table k j = get_or table (shape_words * k + 1 + j) 0

-- the slot k's part tells of the definition s
pub record Shape (s : List ℕ) (k : ℕ) (table : List ℕ) : Type 0 where
  pub many : get_or table (shape_words * k) 0 ≡ length (front_in s).values + 1
  pub named : (j : ℕ) → j < 32 → name_of_in j s ≡ label_at s (label_in table k j)
  pub within : (j : ℕ) → j < 32 → 0 < label_in table k j → label_in table k j + 1 + get_or s (label_in table k j) 0 ≤ length s

-- the same of each synth from one place of the node table to another
abbrev pub Shapes : List ℕ → List ℕ → ℕ → ℕ → List ℕ → Type 0
Shapes ws bs from end table =
    (i : ℕ) → from ≤ i → i < end → is_group (record_in ws i) ≡ false → Shape (slot_bytes ws bs (record_in ws i).slot) (record_in ws i).slot table

-- a definition's shape, put into its slot's part of the table
pub record Filled (s : List ℕ) (k : ℕ) (table table' : List ℕ) : Type 0 where
  pub size : length table' ≡ shapes_length
  pub shape : Shape s k table'
  pub below : (m : ℕ) → m < shape_words * k → get_or table' m 0 ≡ get_or table m 0
  pub above : (m : ℕ) → shape_words * k + shape_words ≤ m → get_or table' m 0 ≡ get_or table m 0

-- what was looked up before is right
pub record ShapesKnown (ws bs table : List ℕ) : Type 0 where
  pub size : length table ≡ shapes_length
  pub right : (k : ℕ) → k < 32 → 0 < get_or table (shape_words * k) 0 → Shape (slot_bytes ws bs k) k table

-- a row's slot looked up
pub record LookedUp (ws bs : List ℕ) (i : ℕ) (table table' : List ℕ) : Type 0 where
  pub fact : ShapesKnown ws bs table'
  pub kept : (k : ℕ) → k < 32 → 0 < get_or table (shape_words * k) 0 → 0 < get_or table' (shape_words * k) 0
  pub there : is_group (record_in ws i) ≡ false → 0 < get_or table' (shape_words * (record_in ws i).slot) 0
