-- The engine's model: paper 01, "What the engine holds", and how it lies in the lent words and in the arena.
use Rattle.std.specs.Prelude.{ℕ, zero, suc, ◌+◌, ◌*◌, Bool, false, List, [], ◌∷◌, length, drop, get_or, eqb}
use Rattle.words.specs.Choice.{pick, both, either}
use Rattle.format.specs.Read.{Read, got, bad}
use Rattle.format.specs.Definition.{Definition}
use Rattle.format.specs.Reader.{read_definition, same_name}
use Rattle.nodes.specs.declared.Node.{Node}
use Rattle.values.specs.Controls.{ControlValue, control_at}
use Rattle.model.specs.Layout.{slot_count, row_words, lengths_in, flags_in, nodes_in, order_in, controls_in, buses_in, next_in, latest_in, slot_in}

-- a definition's slot: its encoded bytes, and whether it is resident, that is, what its name means today
pub record Slot : Type 0 where
  pub bytes : List ℕ
  pub resident : Bool

-- "One engine: a table of synth definitions, a tree of nodes, 4,096 control buses": the nodes in depth-first order with depths, the kept running
-- order, the controls by rows, the next generated number, and the latest synth's number or 0
pub record Engine : Type 0 where
  pub slots : List Slot
  pub nodes : List Node
  pub order : List ℕ
  pub controls : List ℕ
  pub buses : List ℕ
  pub next : ℕ
  pub latest : ℕ

-- from the slot k on so many, by their lengths, their resident flags and the arena
unfoldable pub slots_from : ℕ → ℕ → List ℕ → List ℕ → List ℕ → List Slot
slots_from k zero lengths flags arena = []
slots_from k (suc n) lengths flags arena =
    record { bytes = slot_in arena k (get_or lengths 0 0); resident = eqb (get_or flags 0 0) 1 } ∷ slots_from (k + 1) n (drop 1 lengths) (drop 1 flags) arena

unfoldable pub decode : List ℕ → List ℕ → Engine
decode ws arena = record {
  slots = slots_from 0 slot_count (lengths_in ws) (flags_in ws) arena;
  nodes = nodes_in ws;
  order = order_in ws;
  controls = controls_in ws;
  buses = buses_in ws;
  next = next_in ws;
  latest = latest_in ws;
}

-- the definition in a slot, as read; one with nothing in it where none can be read
abbrev pub no_definition : Definition
no_definition = record { front = record { name = []; constants = []; values = []; names = [] }; units = []; variants = [] }

abbrev pub value_or : {A : Type 0} → A → Read A → A
value_or x (got y next) = y
value_or x (bad r at) = x

abbrev pub definition_in : Slot → Definition
definition_in s = value_or no_definition (read_definition s.bytes 0)

abbrev pub name_in : Slot → List ℕ
name_in s = (definition_in s).front.name

abbrev pub slot_at : List Slot → ℕ → Slot
slot_at slots k = get_or slots k (record { bytes = []; resident = false })

-- the definition that a synth holds
abbrev pub definition_of : List Slot → Node → Definition
definition_of slots r = definition_in (slot_at slots r.slot)

-- a live synth holds the slot k
unfoldable pub held : ℕ → List Node → Bool
held k [] = false
held k (r ∷ l) = either (eqb r.slot k) (held k l)

-- "A slot is free exactly when its definition isn't resident and no live synth holds it."
abbrev pub slot_taken : ℕ → Slot → List Node → Bool
slot_taken k s nodes = either s.resident (held k nodes)

-- the slot, from the slot k on, of the resident of a name: what the name means today; past the last where there is none
unfoldable pub resident_from : ℕ → List ℕ → List Slot → ℕ
resident_from k name [] = k
resident_from k name (s ∷ more) = pick (both s.resident (same_name (name_in s) name)) k (resident_from (k + 1) name more)

abbrev pub resident_of : List ℕ → List Slot → ℕ
resident_of name slots = resident_from 0 name slots

unfoldable pub residents : List Slot → List Slot
residents [] = []
residents (s ∷ more) = pick s.resident (s ∷ residents more) (residents more)

-- the controls in a run of words, two words each
unfoldable pub controls_from : ℕ → List ℕ → List ControlValue
controls_from zero us = []
controls_from (suc n) us = control_at (get_or us 0 0) (get_or us 1 0) ∷ controls_from n (drop 2 us)

-- a synth's controls: as many as its definition has parameters, from its row on
abbrev pub controls_of : List Slot → List ℕ → Node → List ControlValue
controls_of slots controls r = controls_from (length (definition_of slots r).front.values) (drop (row_words * r.row) controls)
