-- The commands of calls from another language: the op's number, and five numbers a to e, of which each command takes the first that it has.
use Rattle.std.specs.Prelude.{ℕ, List, [], ◌∷◌, get_or, eqb, Option, Some, None}
use Rattle.std.specs.Option.{option_map}
use Rattle.words.specs.Choice.{pick}
use Rattle.values.specs.declared.Key.{Key}
use Rattle.values.specs.declared.Key.TheVariants.{Index, Name}
use Rattle.values.specs.declared.NodeArgument.{NodeArgument}
use Rattle.values.specs.declared.Value.{Value}
use Rattle.values.specs.declared.Value.TheVariants.{Float, Integer}
use Rattle.values.specs.Targets.{argument}
use Rattle.model.specs.declared.DefinitionCommand.TheVariants as definitions
use Rattle.model.specs.declared.TreeCommand.TheVariants as tree
use Rattle.model.specs.declared.ControlCommand.TheVariants as controls
use Rattle.model.specs.declared.BusCommand.TheVariants as buses
use Rattle.model.specs.declared.Query.TheVariants as query
use Rattle.model.specs.declared.Command.{Command}
use Rattle.model.specs.declared.Command.TheVariants as command
use Rattle.calls.specs.declared.Numbers.{Numbers}

-- the op of each command, which never changes: `src/ops.rt` has the same names
abbrev pub no_op : ℕ
no_op = 0

abbrev pub d_recv : ℕ
d_recv = 1

abbrev pub d_free : ℕ
d_free = 2

abbrev pub s_new : ℕ
s_new = 3

abbrev pub g_new : ℕ
g_new = 4

abbrev pub n_free : ℕ
n_free = 5

abbrev pub g_free_all : ℕ
g_free_all = 6

abbrev pub g_deep_free : ℕ
g_deep_free = 7

abbrev pub n_before : ℕ
n_before = 8

abbrev pub n_after : ℕ
n_after = 9

abbrev pub g_head : ℕ
g_head = 10

abbrev pub g_tail : ℕ
g_tail = 11

abbrev pub n_run : ℕ
n_run = 12

abbrev pub n_set : ℕ
n_set = 13

abbrev pub n_set_named : ℕ
n_set_named = 14

abbrev pub n_fill : ℕ
n_fill = 15

abbrev pub n_fill_named : ℕ
n_fill_named = 16

abbrev pub n_map : ℕ
n_map = 17

abbrev pub n_map_named : ℕ
n_map_named = 18

abbrev pub c_set : ℕ
c_set = 19

abbrev pub c_fill : ℕ
c_fill = 20

abbrev pub s_get : ℕ
s_get = 21

abbrev pub s_get_named : ℕ
s_get_named = 22

abbrev pub c_get : ℕ
c_get = 23

abbrev pub n_query : ℕ
n_query = 24

abbrev pub g_query_tree : ℕ
g_query_tree = 25

abbrev pub status : ℕ
status = 26

abbrev pub export : ℕ
export = 27

-- paper 02, 8/14: a recall takes a store beside its numbers, so that it is no command of `engine_apply`; no list holds it, and it has no address
abbrev pub recall : ℕ
recall = 28

-- the last op of all that have an address, and the last of a command
abbrev pub last_with_address : ℕ
last_with_address = status

abbrev pub last : ℕ
last = export

-- in a value d is 0 for a float's pattern in e, 1 for an integer in e
abbrev pub value_of : ℕ → ℕ → Option Value
value_of d e = pick (eqb d 0) (Some (Float e)) (pick (eqb d 1) (Some (Integer e)) None)

abbrev pub valued : ℕ → ℕ → (Value → Command) → Option Command
valued d e make = option_map make (value_of d e)

abbrev pub setting : NodeArgument → Key → Value → Command
setting node key value = command.Controls (controls.Set node key value)

abbrev pub filling : NodeArgument → Key → ℕ → Value → Command
filling node key count value = command.Controls (controls.Fill node key count value)

abbrev pub bus_setting : ℕ → Value → Command
bus_setting bus value = command.Buses (buses.Set bus value)

abbrev pub bus_filling : ℕ → ℕ → Value → Command
bus_filling start count value = command.Buses (buses.Fill start count value)

-- the command of each op, at the place of its number
abbrev pub ops : ℕ → ℕ → ℕ → ℕ → ℕ → List (Option Command)
ops a b c d e =
    None
    -- /d_recv, /d_free
    ∷ (Some (command.Definitions definitions.Receive)
    ∷ (Some (command.Definitions definitions.Free)
    -- /s_new, /g_new
    ∷ (Some (command.Tree (tree.NewSynth a b (argument c)))
    ∷ (Some (command.Tree (tree.NewGroup a b (argument c)))
    -- /n_free, /g_freeAll, /g_deepFree
    ∷ (Some (command.Tree (tree.Free (argument a)))
    ∷ (Some (command.Tree (tree.FreeAll (argument a)))
    ∷ (Some (command.Tree (tree.DeepFree (argument a)))
    -- /n_before, /n_after, /g_head, /g_tail
    ∷ (Some (command.Tree (tree.Before (argument a) (argument b)))
    ∷ (Some (command.Tree (tree.After (argument a) (argument b)))
    ∷ (Some (command.Tree (tree.Head (argument a) (argument b)))
    ∷ (Some (command.Tree (tree.Tail (argument a) (argument b)))
    -- /n_run
    ∷ (Some (command.Tree (tree.Run (argument a) b))
    -- /n_set by index, by name
    ∷ (valued d e (setting (argument a) (Index b))
    ∷ (valued d e (setting (argument a) Name)
    -- /n_fill by index, by name
    ∷ (valued d e (filling (argument a) (Index b) c)
    ∷ (valued d e (filling (argument a) Name c)
    -- /n_map by index, by name
    ∷ (Some (command.Controls (controls.Map (argument a) (Index b) c))
    ∷ (Some (command.Controls (controls.Map (argument a) Name c))
    -- /c_set, /c_fill
    ∷ (valued d e (bus_setting a)
    ∷ (valued d e (bus_filling a c)
    -- /s_get by index, by name
    ∷ (Some (command.Query (query.Control (argument a) (Index b)))
    ∷ (Some (command.Query (query.Control (argument a) Name))
    -- /c_get, /n_query
    ∷ (Some (command.Query (query.Bus a))
    ∷ (Some (command.Query (query.Node (argument a)))
    -- /g_queryTree, /status, export
    ∷ (Some (command.Query (query.Tree (argument a) b))
    ∷ (Some (command.Query query.Status)
    ∷ (Some (command.Query query.Export)
    ∷ [])))))))))))))))))))))))))))

-- an `op` that is none of these is no command
unfoldable pub command_of : ℕ → ℕ → ℕ → ℕ → ℕ → ℕ → Option Command
command_of op a b c d e = get_or (ops a b c d e) op None

abbrev pub command_in : Numbers → Option Command
command_in n = command_of n.op n.a n.b n.c n.d n.e
