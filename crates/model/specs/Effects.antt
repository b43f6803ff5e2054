-- What each accepted command does to the engine: paper 01, "Slots and old shapes", "Nodes", "Controls and buses".
use Rattle.std.specs.Prelude.{ℕ, zero, suc, ◌+◌, ◌-◌, ◌*◌, min, true, false, not, List, [], ◌∷◌, ◌++◌, take, drop, get_or, set, replicate, eqb}
use Rattle.std.proofs.Math.Option.{Option, none, some}
use Rattle.words.specs.Choice.{pick, both}
use Rattle.words.specs.Parts.{put, over}
use Rattle.format.specs.Definition.{Definition}
use Rattle.format.specs.Names.{Covered}
use Rattle.format.specs.Reader.{read_file, among}
use Rattle.format.specs.Writer.{write_definition}
use Rattle.nodes.specs.declared.Node.{Node}
use Rattle.nodes.specs.Place.{group_slot, is_group, lives}
use Rattle.nodes.specs.Edit.{run_of, cut, cut_below, deep_free, set_run, add_by, move_before, move_after, move_head, move_tail}
use Rattle.nodes.specs.Order.{order}
use Rattle.nodes.specs.Formed.{free_row}
use Rattle.values.specs.declared.Key.{Key}
use Rattle.values.specs.declared.NodeArgument.{NodeArgument}
use Rattle.values.specs.Controls.{ControlValue, control_at, mapping_word, set_to, map_to}
use Rattle.values.specs.Values.{pattern}
use Rattle.model.specs.declared.DefinitionCommand.{DefinitionCommand}
use Rattle.model.specs.declared.DefinitionCommand.TheVariants as definitions
use Rattle.model.specs.declared.TreeCommand.{TreeCommand}
use Rattle.model.specs.declared.TreeCommand.TheVariants as tree
use Rattle.model.specs.declared.ControlCommand.{ControlCommand}
use Rattle.model.specs.declared.ControlCommand.TheVariants as controls
use Rattle.model.specs.declared.BusCommand.{BusCommand}
use Rattle.model.specs.declared.BusCommand.TheVariants as buses
use Rattle.model.specs.declared.Command.{Command}
use Rattle.model.specs.declared.Command.TheVariants as command
use Rattle.model.specs.Layout.{row_words}
use Rattle.model.specs.Engine.{Slot, Engine, slot_taken, name_in, definition_of, resident_of, slot_at}
use Rattle.words.specs.Patterns.{minus_one}
use Rattle.model.specs.Meaning.{meant, cover_of, mapping_to}
use Rattle.model.specs.Checks.{definitions_of, names_of}

-- "A load first retires residents whose names are in the file"
unfoldable pub retired : List (List ℕ) → List Slot → List Slot
retired names [] = []
retired names (s ∷ more) = record { bytes = s.bytes; resident = both s.resident (not (among (name_in s) names)) } ∷ retired names more

-- the lowest free slot, from the slot k on
unfoldable pub free_from : ℕ → List Slot → List Node → ℕ
free_from k [] t = k
free_from k (s ∷ more) t = pick (slot_taken k s t) (free_from (k + 1) more t) k

-- "then puts the new ones in the lowest free slots, in file order"
abbrev pub placed : Definition → List Slot → List Node → List Slot
placed d slots t = set slots (free_from 0 slots t) (record { bytes = write_definition d; resident = true })

unfoldable pub loaded : List Definition → List Slot → List Node → List Slot
loaded [] slots t = slots
loaded (d ∷ ds) slots t = loaded ds (placed d slots t) t

-- "`/d_free` retires one resident."
abbrev pub retire : ℕ → List Slot → List Slot
retire k slots = set slots k (record { bytes = (slot_at slots k).bytes; resident = false })

abbrev pub with_slots : List Slot → Engine → Engine
with_slots slots e = record { slots = slots; nodes = e.nodes; order = e.order; controls = e.controls; buses = e.buses; next = e.next; latest = e.latest }

abbrev pub definition_effect : DefinitionCommand → List ℕ → Engine → Engine
definition_effect definitions.Receive bytes e =
    with_slots (loaded (definitions_of (read_file bytes)) (retired (names_of (definitions_of (read_file bytes))) e.slots) e.nodes) e
definition_effect definitions.Free bytes e = with_slots (retire (resident_of bytes e.slots) e.slots) e

-- "A latest freed by these or by 4 becomes none."
abbrev pub latest_among : List Node → ℕ → ℕ
latest_among t latest = pick (lives latest t) latest 0

-- other nodes; "it is kept in the state after each command": the running order follows them
abbrev pub with_nodes : List Node → Engine → Engine
with_nodes t e = record { slots = e.slots; nodes = t; order = order t; controls = e.controls; buses = e.buses; next = e.next; latest = latest_among t e.latest }

-- the nodes that stay when one is put in: action 4 frees the target's subtree first
abbrev pub staying_nodes : ℕ → ℕ → List Node → List Node
staying_nodes action n t = pick (eqb action 4) (cut n t) t

-- "New nodes run."
abbrev pub new_group : ℕ → Node
new_group number = record { number = number; depth = 0; run = 1; slot = group_slot; row = 0 }

abbrev pub new_synth : ℕ → ℕ → ℕ → Node
new_synth number slot row = record { number = number; depth = 0; run = 1; slot = slot; row = row }

-- "For -1 the engine gives -8, then -9 and so on": for -1 the next number, "which falls by one"
abbrev pub number_for : ℕ → ℕ → ℕ
number_for number next = pick (eqb number minus_one) next number

abbrev pub next_after : ℕ → ℕ → ℕ
next_after number next = pick (eqb number minus_one) (next - 1) next

-- "A new synth takes its definition's initial values, unmapped."
unfoldable pub initial_words : List ℕ → List ℕ
initial_words [] = []
initial_words (v ∷ vs) = v ∷ (0 ∷ initial_words vs)

abbrev pub synth_made : ℕ → ℕ → ℕ → ℕ → Engine → Engine
synth_made number action target slot e =
    let row : ℕ = free_row (staying_nodes action target e.nodes) in
    let t : List Node = add_by action (new_synth (number_for number e.next) slot row) target e.nodes in
    record {
      slots = e.slots;
      nodes = t;
      order = order t;
      controls = over (row_words * row) (initial_words (definition_of e.slots (new_synth 0 slot 0)).front.values) e.controls;
      buses = e.buses;
      next = next_after number e.next;
      latest = number_for number e.next;
    }

abbrev pub tree_effect : TreeCommand → List ℕ → Engine → Engine
tree_effect (tree.NewSynth number action target) bytes e = synth_made number action (meant target e) (resident_of bytes e.slots) e
tree_effect (tree.NewGroup number action target) bytes e = with_nodes (add_by action (new_group number) (meant target e) e.nodes) e
tree_effect (tree.Free n) bytes e = with_nodes (cut (meant n e) e.nodes) e
tree_effect (tree.FreeAll g) bytes e = with_nodes (cut_below (meant g e) e.nodes) e
tree_effect (tree.DeepFree g) bytes e = with_nodes (deep_free (meant g e) e.nodes) e
tree_effect (tree.Before a b) bytes e = with_nodes (move_before (meant a e) (meant b e) e.nodes) e
tree_effect (tree.After a b) bytes e = with_nodes (move_after (meant a e) (meant b e) e.nodes) e
tree_effect (tree.Head g a) bytes e = with_nodes (move_head (meant a e) (meant g e) e.nodes) e
tree_effect (tree.Tail g a) bytes e = with_nodes (move_tail (meant a e) (meant g e) e.nodes) e
tree_effect (tree.Run n flag) bytes e = with_nodes (set_run (meant n e) flag e.nodes) e

-- the two words of a control
abbrev pub control_words : ControlValue → List ℕ
control_words c = c.own ∷ (mapping_word c.mapping ∷ [])

-- the first n controls of a run of words, each changed by f
unfoldable pub change_words : (ControlValue → ControlValue) → ℕ → List ℕ → List ℕ
change_words f zero us = us
change_words f (suc n) us = control_words (f (control_at (get_or us 0 0) (get_or us 1 0))) ++ change_words f n (drop 2 us)

-- the controls of one row from start on, so many
abbrev pub change_row : (ControlValue → ControlValue) → ℕ → ℕ → ℕ → List ℕ → List ℕ
change_row f row start many cs = take (row_words * row + 2 * start) cs ++ change_words f many (drop (row_words * row + 2 * start) cs)

-- the controls of one row that are covered, count of them or as many as there are; paper 02, 6/14: "on a group that synth is filled to the width
-- only"
abbrev pub change_covered : (ControlValue → ControlValue) → Option Covered → ℕ → ℕ → List ℕ → List ℕ
change_covered f none row count cs = cs
change_covered f (some c) row count cs = change_row f row c.index (min count c.width) cs

-- "On a group these reach every synth at any depth that has the control, and skip the others."
unfoldable pub change_all : (ControlValue → ControlValue) → Key → List ℕ → ℕ → List Slot → List Node → List ℕ → List ℕ
change_all f key bytes count slots [] cs = cs
change_all f key bytes count slots (r ∷ l) cs =
    change_all f key bytes count slots l
    (pick (is_group r) cs
    (change_covered f (cover_of key bytes (definition_of slots r)) r.row count cs))

abbrev pub with_controls : List ℕ → Engine → Engine
with_controls cs e = record { slots = e.slots; nodes = e.nodes; order = e.order; controls = cs; buses = e.buses; next = e.next; latest = e.latest }

-- the node and all below it, reached by a change of controls
abbrev pub changed : (ControlValue → ControlValue) → NodeArgument → Key → ℕ → List ℕ → Engine → Engine
changed f n key count bytes e = with_controls (change_all f key bytes count e.slots (run_of (meant n e) e.nodes) e.controls) e

-- "`/n_set`, `/n_fill` store the own float and unmap. `/n_map` to -1 unmaps and the own float returns (H)."
abbrev pub control_effect : ControlCommand → List ℕ → Engine → Engine
control_effect (controls.Set n key value) bytes e = changed (set_to (pattern value)) n key 1 bytes e
control_effect (controls.Fill n key count value) bytes e = changed (set_to (pattern value)) n key count bytes e
control_effect (controls.Map n key bus) bytes e = changed (map_to (mapping_to bus)) n key 1 bytes e

-- "`/c_set`, `/c_fill` .. touch buses only."
abbrev pub bus_effect : BusCommand → List ℕ → List ℕ
bus_effect (buses.Set bus value) bs = set bs bus (pattern value)
bus_effect (buses.Fill start count value) bs = put start count (replicate count (pattern value)) bs

abbrev pub with_buses : List ℕ → Engine → Engine
with_buses bs e = record { slots = e.slots; nodes = e.nodes; order = e.order; controls = e.controls; buses = bs; next = e.next; latest = e.latest }

-- queries and export change nothing
unfoldable pub effect : Command → List ℕ → Engine → Engine
effect (command.Definitions c) bytes e = definition_effect c bytes e
effect (command.Tree c) bytes e = tree_effect c bytes e
effect (command.Controls c) bytes e = control_effect c bytes e
effect (command.Buses c) bytes e = with_buses (bus_effect c e.buses) e
effect (command.Query q) bytes e = e
