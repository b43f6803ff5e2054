-- Every command is that of a call, and every one but export of a call whose op has a row.
use Rattle.std.specs.Prelude.{ℕ, ◌≡◌, refl, List, Some}
use Rattle.std.proofs.Math.Option.{some}
use Rattle.values.specs.declared.Key.TheVariants.{Index, Name}
use Rattle.values.specs.declared.Value.{Value}
use Rattle.values.specs.declared.Value.TheVariants.{Float, Integer}
use Rattle.model.specs.declared.DefinitionCommand.TheVariants as definitions
use Rattle.model.specs.declared.TreeCommand.TheVariants as tree
use Rattle.model.specs.declared.ControlCommand.TheVariants as controls
use Rattle.model.specs.declared.BusCommand.TheVariants as buses
use Rattle.model.specs.declared.Query.TheVariants as query
use Rattle.model.specs.declared.Command.{Command}
use Rattle.model.specs.declared.Command.TheVariants as command
use Rattle.calls.specs.Ops as ops
use Rattle.calls.specs.Ops.{command_of, command_in}
use Rattle.calls.specs.declared.Numbers.{Numbers}
use Rattle.messages.specs.Table.{Row, Given}
use Rattle.messages.specs.Write.{row_from, row_of}

-- an op with its numbers, and with its numbers and a value
abbrev plain : ℕ → ℕ → ℕ → ℕ → Numbers
plain op a b c = record { op = op; a = a; b = b; c = c; d = 0; e = 0 }

abbrev valued : ℕ → ℕ → ℕ → ℕ → Value → Numbers
valued op a b c (Float p) = record { op = op; a = a; b = b; c = c; d = 0; e = p }
valued op a b c (Integer n) = record { op = op; a = a; b = b; c = c; d = 1; e = n }

abbrev pub numbers_of : Command → Numbers
numbers_of (command.Definitions definitions.Receive) = plain ops.d_recv 0 0 0
numbers_of (command.Definitions definitions.Free) = plain ops.d_free 0 0 0
numbers_of (command.Tree (tree.NewSynth n action target)) = plain ops.s_new n action target.number
numbers_of (command.Tree (tree.NewGroup n action target)) = plain ops.g_new n action target.number
numbers_of (command.Tree (tree.Free node)) = plain ops.n_free node.number 0 0
numbers_of (command.Tree (tree.FreeAll group)) = plain ops.g_free_all group.number 0 0
numbers_of (command.Tree (tree.DeepFree group)) = plain ops.g_deep_free group.number 0 0
numbers_of (command.Tree (tree.Before node place)) = plain ops.n_before node.number place.number 0
numbers_of (command.Tree (tree.After node place)) = plain ops.n_after node.number place.number 0
numbers_of (command.Tree (tree.Head group node)) = plain ops.g_head group.number node.number 0
numbers_of (command.Tree (tree.Tail group node)) = plain ops.g_tail group.number node.number 0
numbers_of (command.Tree (tree.Run node flag)) = plain ops.n_run node.number flag 0
numbers_of (command.Controls (controls.Set node (Index k) v)) = valued ops.n_set node.number k 0 v
numbers_of (command.Controls (controls.Set node Name v)) = valued ops.n_set_named node.number 0 0 v
numbers_of (command.Controls (controls.Fill node (Index k) count v)) = valued ops.n_fill node.number k count v
numbers_of (command.Controls (controls.Fill node Name count v)) = valued ops.n_fill_named node.number 0 count v
numbers_of (command.Controls (controls.Map node (Index k) bus)) = plain ops.n_map node.number k bus
numbers_of (command.Controls (controls.Map node Name bus)) = plain ops.n_map_named node.number 0 bus
numbers_of (command.Buses (buses.Set bus v)) = valued ops.c_set bus 0 0 v
numbers_of (command.Buses (buses.Fill start count v)) = valued ops.c_fill start 0 count v
numbers_of (command.Query (query.Control node (Index k))) = plain ops.s_get node.number k 0
numbers_of (command.Query (query.Control node Name)) = plain ops.s_get_named node.number 0 0
numbers_of (command.Query (query.Bus bus)) = plain ops.c_get bus 0 0
numbers_of (command.Query (query.Node node)) = plain ops.n_query node.number 0 0
numbers_of (command.Query (query.Tree group flag)) = plain ops.g_query_tree group.number flag 0
numbers_of (command.Query query.Status) = plain ops.status 0 0 0
numbers_of (command.Query query.Export) = plain ops.export 0 0 0

-- the command's own call, with bytes beside it
abbrev pub call_of : Command → List ℕ → Given
call_of c part = record { numbers = numbers_of c; bytes = part }

-- a command's numbers, whose op has a row
pub record Called (c : Command) : Type 0 where
  pub row : Row
  pub is : command_in (numbers_of c) ≡ Some c
  pub known : row_of (numbers_of c).op ≡ some row

called : {c : Command} {r : Row} → command_in (numbers_of c) ≡ Some c → row_of (numbers_of c).op ≡ some r → Called c
called {c} {r} e k = record { row = r; is = e; known = k }

pub every_called : (c : Command) → (c ≡ command.Query query.Export → ⊥) → Called c
unfolding command_of row_from
every_called (command.Definitions definitions.Receive) h = called refl refl
every_called (command.Definitions definitions.Free) h = called refl refl
every_called (command.Tree (tree.NewSynth n action target)) h = called refl refl
every_called (command.Tree (tree.NewGroup n action target)) h = called refl refl
every_called (command.Tree (tree.Free node)) h = called refl refl
every_called (command.Tree (tree.FreeAll group)) h = called refl refl
every_called (command.Tree (tree.DeepFree group)) h = called refl refl
every_called (command.Tree (tree.Before node place)) h = called refl refl
every_called (command.Tree (tree.After node place)) h = called refl refl
every_called (command.Tree (tree.Head group node)) h = called refl refl
every_called (command.Tree (tree.Tail group node)) h = called refl refl
every_called (command.Tree (tree.Run node flag)) h = called refl refl
every_called (command.Controls (controls.Set node (Index k) (Float p))) h = called refl refl
every_called (command.Controls (controls.Set node (Index k) (Integer n))) h = called refl refl
every_called (command.Controls (controls.Set node Name (Float p))) h = called refl refl
every_called (command.Controls (controls.Set node Name (Integer n))) h = called refl refl
every_called (command.Controls (controls.Fill node (Index k) count (Float p))) h = called refl refl
every_called (command.Controls (controls.Fill node (Index k) count (Integer n))) h = called refl refl
every_called (command.Controls (controls.Fill node Name count (Float p))) h = called refl refl
every_called (command.Controls (controls.Fill node Name count (Integer n))) h = called refl refl
every_called (command.Controls (controls.Map node (Index k) bus)) h = called refl refl
every_called (command.Controls (controls.Map node Name bus)) h = called refl refl
every_called (command.Buses (buses.Set bus (Float p))) h = called refl refl
every_called (command.Buses (buses.Set bus (Integer n))) h = called refl refl
every_called (command.Buses (buses.Fill start count (Float p))) h = called refl refl
every_called (command.Buses (buses.Fill start count (Integer n))) h = called refl refl
every_called (command.Query (query.Control node (Index k))) h = called refl refl
every_called (command.Query (query.Control node Name)) h = called refl refl
every_called (command.Query (query.Bus bus)) h = called refl refl
every_called (command.Query (query.Node node)) h = called refl refl
every_called (command.Query (query.Tree group flag)) h = called refl refl
every_called (command.Query query.Status) h = called refl refl
every_called (command.Query query.Export) h = absurd (h refl)
