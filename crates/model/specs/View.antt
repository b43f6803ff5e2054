-- What the plain tree and the engine have in common: the nodes in depth-first order, each with its depth, as paper 01's plain tree knows a node.
use Rattle.std.specs.Prelude.{ℕ, Bool, true, false, List, [], ◌∷◌}
use Rattle.words.specs.Choice.{pick}
use Rattle.format.specs.Definition.{Definition}
use Rattle.nodes.specs.declared.Node.{Node}
use Rattle.nodes.specs.Place.{group_slot, is_group}
use Rattle.values.specs.Controls.{ControlValue}
use Rattle.model.specs.Engine.{Slot, Engine, definition_of, controls_of}

-- "each synth's definition and controls"
pub data Kind : Type 0 where
  group : Kind
  synth : Definition → List ControlValue → Kind

-- "the nodes with number and run flag"
pub record PlainNode : Type 0 where
  pub number : ℕ
  pub run : ℕ
  pub kind : Kind

pub record Row : Type 0 where
  pub depth : ℕ
  pub node : PlainNode

abbrev pub kind_in : List Slot → List ℕ → Node → Kind
kind_in slots controls r = pick (is_group r) group (synth (definition_of slots r) (controls_of slots controls r))

-- a node of the table, its definition and its controls as read and not by slot and row
abbrev pub view_of : List Slot → List ℕ → Node → PlainNode
view_of slots controls r = record { number = r.number; run = r.run; kind = kind_in slots controls r }

unfoldable pub view_rows : List Slot → List ℕ → List Node → List Row
view_rows slots controls [] = []
view_rows slots controls (r ∷ l) = record { depth = r.depth; node = view_of slots controls r } ∷ view_rows slots controls l

abbrev pub view : Engine → List Row
view e = view_rows e.slots e.controls e.nodes

abbrev pub is_group_kind : Kind → Bool
is_group_kind group = true
is_group_kind (synth d cs) = false

-- a row's place in the tree, as a record of a table: what the structure of the tree is read from
abbrev pub slot_of_kind : Kind → ℕ
slot_of_kind group = group_slot
slot_of_kind (synth d cs) = 0

abbrev pub shape_of : Row → Node
shape_of r = record { number = r.node.number; depth = r.depth; run = r.node.run; slot = slot_of_kind r.node.kind; row = 0 }

unfoldable pub shape : List Row → List Node
shape [] = []
shape (r ∷ l) = shape_of r ∷ shape l
