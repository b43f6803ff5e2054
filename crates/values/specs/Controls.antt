-- Controls: paper 01, "Controls and buses" and "The plain tree".
use Rattle.std.specs.Prelude.{ℕ, ◌+◌, ◌-◌, min, ◌≡◌, List, eqb, get_or}
use Rattle.std.specs.Float.{binary32}
use Rattle.std.specs.Float.Ieee.{to_bits, of_bits, nan_bits}
use Rattle.words.specs.Choice.{pick}
use Rattle.values.specs.declared.Control.{Control}
use Rattle.values.specs.declared.Mapping.{Mapping}
use Rattle.values.specs.declared.Mapping.TheVariants.{Unmapped, Bus}

-- "controls by own float and mapping; every float by its bits"
pub record ControlValue : Type 0 where
  pub own : ℕ
  pub mapping : Mapping

-- what a control's struct holds: "Floats may be any 32 bits and are kept bit for bit", a NaN's in `nan`
unfoldable pub seen : Control → ControlValue
seen c = record { own = pick (eqb c.nan 0) (to_bits binary32 c.own) c.nan; mapping = c.mapping }

-- the one struct for a value: at a NaN's pattern `own` is 0.0
unfoldable pub control_of : ControlValue → Control
control_of v = record {
  own = of_bits binary32 (pick (nan_bits binary32 v.own) 0 v.own);
  nan = pick (nan_bits binary32 v.own) v.own 0;
  mapping = v.mapping;
}

-- a struct that holds a value, and the only one made for it
pub record Holds (c : Control) (v : ControlValue) : Type 0 where
  pub struct : c ≡ control_of v
  pub value : seen c ≡ v

-- "Each control has an own float and is either unmapped or mapped to one bus": a mapping's word in the state is 0, or the bus + 1
abbrev pub mapping_of : ℕ → Mapping
mapping_of word = pick (eqb word 0) Unmapped (Bus (word - 1))

-- no word is past the last of 32 bits
abbrev pub mapping_word : Mapping → ℕ
mapping_word Unmapped = 0
mapping_word (Bus b) = min (b + 1) 4294967295

-- the control in two words of the state
abbrev pub control_at : ℕ → ℕ → ControlValue
control_at own word = record { own = own; mapping = mapping_of word }

-- "`/n_set`, `/n_fill` store the own float and unmap."
abbrev pub set_to : ℕ → ControlValue → ControlValue
set_to pattern v = record { own = pattern; mapping = Unmapped }

-- "`/n_map` to -1 unmaps and the own float returns": the own float stays under a mapping
abbrev pub map_to : Mapping → ControlValue → ControlValue
map_to m v = record { own = v.own; mapping = m }

-- a bus's pattern, 0 past the last
abbrev pub bus_at : List ℕ → ℕ → ℕ
bus_at buses b = get_or buses b 0

abbrev pub shown : List ℕ → Mapping → ℕ → ℕ
shown buses Unmapped own = own
shown buses (Bus b) own = bus_at buses b

-- "Reading a mapped control gives the bus, otherwise the own float."
abbrev pub shown_by : List ℕ → ControlValue → ℕ
shown_by buses v = shown buses v.mapping v.own
