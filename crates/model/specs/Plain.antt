-- The plain tree of paper 01, section "The plain tree". "It is fed each command with its arguments, a file as its bytes, and whether the command
-- was accepted; nothing from the engine's state." What arguments mean is stated here by itself, and so is what can be done with them: a command
-- that the plain tree has no way to do answers none. docs/TRACE.md lists what is shared with the engine.
use Rattle.std.specs.Prelude.{ℕ, zero, suc, ◌+◌, ◌-◌, min, Bool, true, false, List, [], ◌∷◌, ◌++◌, map, length, take, drop, replicate, ltb, leb, eqb}
use Rattle.std.proofs.Math.Option.{Option, none, some}
use Rattle.words.specs.Choice.{pick, both, either}
use Rattle.format.specs.Read.{Read, got, bad}
use Rattle.format.specs.Definition.{ParameterName, Definition}
use Rattle.format.specs.Reader.{read_file, same_name}
use Rattle.nodes.specs.Forest.{Forest, node, single, has, subtree, edit, map_forest, free, free_below, free_deep, change, put_head, put_tail, put_before, put_after, put_over}
use Rattle.nodes.specs.Forest as forest
use Rattle.nodes.specs.Order.{order_tree}
use Rattle.values.specs.declared.Key.{Key}
use Rattle.values.specs.declared.Key.TheVariants.{Index, Name}
use Rattle.values.specs.declared.NodeArgument.{NodeArgument}
use Rattle.values.specs.declared.Value.{Value}
use Rattle.values.specs.declared.Mapping.TheVariants.{Unmapped, Bus}
use Rattle.values.specs.Controls.{ControlValue}
use Rattle.values.specs.Values.{in_bounds, pattern}
use Rattle.model.specs.declared.DefinitionCommand.{DefinitionCommand}
use Rattle.model.specs.declared.DefinitionCommand.TheVariants as definitions
use Rattle.model.specs.declared.TreeCommand.{TreeCommand}
use Rattle.model.specs.declared.TreeCommand.TheVariants as tree
use Rattle.model.specs.declared.ControlCommand.{ControlCommand}
use Rattle.model.specs.declared.ControlCommand.TheVariants as controls
use Rattle.model.specs.declared.BusCommand.{BusCommand}
use Rattle.model.specs.declared.BusCommand.TheVariants as buses
use Rattle.model.specs.declared.Command.{Command}
use Rattle.model.specs.declared.Command.TheVariants as command
use Rattle.model.specs.View.{Kind, group, synth, PlainNode, Row, is_group_kind}

-- "the definition each name means"
pub record Named : Type 0 where
  pub name : List ℕ
  pub definition : Definition

-- "It holds the nodes with number and run flag, each group's children from head to tail, each synth's definition and controls, the definition each
-- name means, the next
-- generated number, the latest synth or none, and each bus's float": numbers and floats by their patterns
pub record Plain : Type 0 where
  pub tree : Forest PlainNode
  pub names : List Named
  pub next : ℕ
  pub latest : Option ℕ
  pub buses : List ℕ

-- "4,096 control buses"
abbrev pub buses_in_all : ℕ
buses_in_all = 4096

-- "At first: the running root, no names, -8, none, every bus 0.0."
abbrev pub at_first : Plain
at_first = record { tree = single (record { number = 0; run = 1; kind = group }); names = []; next = 4294967288; latest = none; buses = replicate buses_in_all 0 }

-- the pattern of -1, and of -2,147,483,648: from there on patterns are negative
abbrev pub minus_one : ℕ
minus_one = 4294967295

abbrev pub lowest : ℕ
lowest = 2147483648

-- what is made of x where there is one, or else y
abbrev pub if_some : {A B : Type 0} → Option A → (A → B) → B → B
if_some none make y = y
if_some (some x) make y = make x

-- what comes of x where there is one; of none comes none
abbrev pub and_then : {A B : Type 0} → Option A → (A → Option B) → Option B
and_then none next = none
and_then (some x) next = next x

-- x, where it can be done
abbrev pub only_if : {A : Type 0} → Bool → A → Option A
only_if can x = pick can (some x) none

-- "A node named -1 is the latest." A number from 0 on names the node of that number, one below -1 names none.
abbrev pub meant_in : NodeArgument → Plain → Option ℕ
meant_in a p = pick (ltb a.number lowest) (some a.number) (pick (ltb a.number minus_one) none p.latest)

abbrev pub number_in : PlainNode → ℕ
number_in x = x.number

abbrev pub is_group_node : PlainNode → Bool
is_group_node x = is_group_kind x.kind

abbrev pub is_on_node : PlainNode → Bool
is_on_node x = eqb x.run 1

-- the definition that a name means
unfoldable pub meaning : List ℕ → List Named → Option Definition
meaning name [] = none
meaning name (m ∷ ms) = pick (same_name m.name name) (some m.definition) (meaning name ms)

-- "`/d_free` takes the name away."
unfoldable pub undefine : List ℕ → List Named → List Named
undefine name [] = []
undefine name (m ∷ ms) = pick (same_name m.name name) ms (m ∷ undefine name ms)

-- "`/d_recv` gives each name in the file its definition there"
unfoldable pub define : List Definition → List Named → List Named
define [] ms = ms
define (d ∷ ds) ms = define ds (undefine d.front.name ms ++ (record { name = d.front.name; definition = d } ∷ []))

-- .. a file that can be read
abbrev pub define_file : Read (List Definition) → List Named → Option (List Named)
define_file (got ds end) ms = some (define ds ms)
define_file (bad r at) ms = none

abbrev pub with_names : List Named → Plain → Plain
with_names ms p = record { tree = p.tree; names = ms; next = p.next; latest = p.latest; buses = p.buses }

-- only a name that means something can be taken away
abbrev pub step_definitions : DefinitionCommand → List ℕ → Plain → Option Plain
step_definitions definitions.Receive bytes p = and_then (define_file (read_file bytes) p.names) (λ ms. some (with_names ms p))
step_definitions definitions.Free bytes p = and_then (meaning bytes p.names) (λ d. some (with_names (undefine bytes p.names) p))

-- the node of a number
unfoldable pub node_in : ℕ → Forest PlainNode → Option PlainNode
node_in n forest.none = none
node_in n (node x b a) = pick (eqb x.number n) (some x) (if_some (node_in n b) (λ y. some y) (node_in n a))

-- the node that an argument names
abbrev pub named_in : NodeArgument → Plain → Option PlainNode
named_in a p = and_then (meant_in a p) (λ n. node_in n p.tree)

-- whether a number is a group's
abbrev pub is_group_in : ℕ → Forest PlainNode → Bool
is_group_in n f = if_some (node_in n f) (λ x. is_group_node x) false

-- whether a number is of a node below another: of each but the root, which "can't be freed, moved, replaced or given a sibling"
unfoldable pub has_parent : ℕ → Forest PlainNode → Bool
has_parent n forest.none = false
has_parent n (node x b a) = pick (has number_in n b) true (has_parent n a)

-- "A latest freed by these or by 4 becomes none."
abbrev pub latest_after : Forest PlainNode → Option ℕ → Option ℕ
latest_after f latest = if_some latest (λ n. pick (has number_in n f) (some n) none) none

abbrev pub with_tree : Forest PlainNode → Plain → Plain
with_tree f p = record { tree = f; names = p.names; next = p.next; latest = latest_after f p.latest; buses = p.buses }

-- "Add actions: 0 head, 1 tail of the target group; 2 before, 3 after the target; 4 replaces the target, whose subtree is freed":
-- 0 and 1 need a group, the others a node below another
abbrev pub at_head : Forest PlainNode → ℕ → Forest PlainNode → Option (Forest PlainNode)
at_head g n f = only_if (is_group_in n f) (put_head number_in g n f)

abbrev pub at_tail : Forest PlainNode → ℕ → Forest PlainNode → Option (Forest PlainNode)
at_tail g n f = only_if (is_group_in n f) (put_tail number_in g n f)

abbrev pub before : Forest PlainNode → ℕ → Forest PlainNode → Option (Forest PlainNode)
before g n f = only_if (has_parent n f) (put_before number_in g n f)

abbrev pub behind : Forest PlainNode → ℕ → Forest PlainNode → Option (Forest PlainNode)
behind g n f = only_if (has_parent n f) (put_after number_in g n f)

abbrev pub in_place_of : Forest PlainNode → ℕ → Forest PlainNode → Option (Forest PlainNode)
in_place_of g n f = only_if (has_parent n f) (put_over number_in g n f)

-- "put in a running node by the add action; 4 frees the target's subtree and takes its place"; no other action puts in
abbrev pub put_by : ℕ → PlainNode → ℕ → Forest PlainNode → Option (Forest PlainNode)
put_by zero x n f = at_head (single x) n f
put_by (suc zero) x n f = at_tail (single x) n f
put_by (suc (suc zero)) x n f = before (single x) n f
put_by (suc (suc (suc zero))) x n f = behind (single x) n f
put_by (suc (suc (suc (suc zero)))) x n f = in_place_of (single x) n f
put_by (suc (suc (suc (suc (suc k))))) x n f = none

-- a number that lives can't be a new node's, "also if 4 would free it"
abbrev pub put_new : ℕ → PlainNode → ℕ → Forest PlainNode → Option (Forest PlainNode)
put_new action x n f = pick (has number_in x.number f) none (put_by action x n f)

-- "New numbers: 1 to 2,147,483,647, or -1 for `/s_new` only."
abbrev pub put_group : ℕ → ℕ → ℕ → Forest PlainNode → Option (Forest PlainNode)
put_group number action n f = pick (ltb number lowest) (put_new action (record { number = number; run = 1; kind = group }) n f) none

-- "initial values, unmapped"
unfoldable pub initial_controls : List ℕ → List ControlValue
initial_controls [] = []
initial_controls (v ∷ vs) = record { own = v; mapping = Unmapped } ∷ initial_controls vs

-- "A synth takes the definition the given name now means, initial values, unmapped"
abbrev pub synth_of : Definition → Kind
synth_of d = synth d (initial_controls d.front.values)

-- ".. and then becomes the latest"
abbrev pub put_synth : ℕ → ℕ → ℕ → ℕ → Definition → Plain → Option Plain
put_synth number next action n d p =
    and_then (put_new action (record { number = number; run = 1; kind = synth_of d }) n p.tree)
    (λ f. some (record { tree = f; names = p.names; next = next; latest = some number; buses = p.buses }))

-- "for -1 it takes the next number, which falls by one", "the last being -2,147,483,648 (H)"
abbrev pub step_synth : ℕ → ℕ → ℕ → Definition → Plain → Option Plain
step_synth number action n d p =
    pick (eqb number minus_one)
    (pick (ltb p.next lowest) none (put_synth p.next (p.next - 1) action n d p))
    (pick (ltb number lowest) (put_synth number p.next action n d p) none)

-- "A move takes A's subtree out and puts it in where told": A is not the root, and the place is in the tree that is left
abbrev pub move_to : (Forest PlainNode → ℕ → Forest PlainNode → Option (Forest PlainNode)) → ℕ → ℕ → Forest PlainNode → Option (Forest PlainNode)
move_to put m n f = pick (has_parent m f) (put (subtree number_in m f) n (free number_in m f)) none

-- "`/n_free`, `/g_freeAll`, `/g_deepFree` remove the nodes told above under Nodes": "a whole subtree", "all below a group", "the synths at any depth"
abbrev pub freed : ℕ → Forest PlainNode → Option (Forest PlainNode)
freed n f = only_if (has_parent n f) (free number_in n f)

abbrev pub freed_below : ℕ → Forest PlainNode → Option (Forest PlainNode)
freed_below n f = only_if (is_group_in n f) (free_below number_in n f)

abbrev pub freed_deep : ℕ → Forest PlainNode → Option (Forest PlainNode)
freed_deep n f = only_if (is_group_in n f) (free_deep number_in is_group_node n f)

-- "`/n_run` takes 0 or 1 (H), root included."
abbrev pub turned : ℕ → PlainNode → PlainNode
turned flag x = record { number = x.number; run = flag; kind = x.kind }

abbrev pub turned_to : ℕ → ℕ → Forest PlainNode → Option (Forest PlainNode)
turned_to flag n f = only_if (both (ltb flag 2) (has number_in n f)) (change number_in n (turned flag) f)

-- the tree edited at the node that an argument names, or at two
abbrev pub edit_at : NodeArgument → (ℕ → Forest PlainNode → Option (Forest PlainNode)) → Plain → Option Plain
edit_at a edited p = and_then (meant_in a p) (λ n. and_then (edited n p.tree) (λ f. some (with_tree f p)))

abbrev pub edit_at_both : NodeArgument → NodeArgument → (ℕ → ℕ → Forest PlainNode → Option (Forest PlainNode)) → Plain → Option Plain
edit_at_both a b edited p = and_then (meant_in a p) (λ m. edit_at b (edited m) p)

abbrev pub step_tree : TreeCommand → List ℕ → Plain → Option Plain
step_tree (tree.NewSynth number action target) bytes p =
    and_then (meant_in target p) (λ n. and_then (meaning bytes p.names) (λ d. step_synth number action n d p))
step_tree (tree.NewGroup number action target) bytes p = edit_at target (put_group number action) p
step_tree (tree.Free a) bytes p = edit_at a freed p
step_tree (tree.FreeAll g) bytes p = edit_at g freed_below p
step_tree (tree.DeepFree g) bytes p = edit_at g freed_deep p
step_tree (tree.Before a b) bytes p = edit_at_both a b (move_to before) p
step_tree (tree.After a b) bytes p = edit_at_both a b (move_to behind) p
step_tree (tree.Head g a) bytes p = edit_at_both a g (move_to at_head) p
step_tree (tree.Tail g a) bytes p = edit_at_both a g (move_to at_tail) p
step_tree (tree.Run a flag) bytes p = edit_at a (turned_to flag) p

-- "A name means its first entry in that synth's own definition": the indices of its entries there
unfoldable pub indices_of : List ℕ → List ParameterName → List ℕ
indices_of name [] = []
indices_of name (q ∷ more) = pick (same_name q.name name) (q.index ∷ indices_of name more) (indices_of name more)

abbrev pub first_in : List ℕ → Option ℕ
first_in [] = none
first_in (i ∷ more) = some i

-- the control that a key asks for
abbrev pub asked_for : Key → List ℕ → Definition → Option ℕ
asked_for (Index i) name d = some i
asked_for Name name d = first_in (indices_of name d.front.names)

-- paper 02, 6/14: "up to the next larger index that has a name, else up to P": whether an index has a name
unfoldable pub is_named : ℕ → List ParameterName → Bool
is_named i [] = false
is_named i (q ∷ more) = either (eqb q.index i) (is_named i more)

-- how many of so many controls, from i on, come before the first that has a name
unfoldable pub unnamed_from : ℕ → ℕ → List ParameterName → ℕ
unnamed_from i zero names = 0
unnamed_from i (suc left) names = pick (is_named i names) 0 (suc (unnamed_from (i + 1) left names))

-- the control itself, and those behind it
abbrev pub width_at : ℕ → Definition → ℕ
width_at i d = suc (unnamed_from (i + 1) (length d.front.values - (i + 1)) d.front.names)

-- "on a group that synth is filled to the width only, in the plain tree too .. By index nothing changes."
abbrev pub up_to_width : Key → ℕ → ℕ → Definition → ℕ
up_to_width (Index i) start count d = count
up_to_width Name start count d = min count (width_at start d)

-- the items from start on, count of them or as many as there are, each changed by f
abbrev pub change_from : {A : Type 0} → (A → A) → ℕ → ℕ → List A → List A
change_from f start count l = take start l ++ (map f (take count (drop start l)) ++ drop count (drop start l))

abbrev pub change_kind : (ControlValue → ControlValue) → Key → List ℕ → ℕ → Kind → Kind
change_kind f key bytes count group = group
change_kind f key bytes count (synth d cs) = synth d (if_some (asked_for key bytes d) (λ i. change_from f i (up_to_width key i count d) cs) cs)

abbrev pub change_node : (ControlValue → ControlValue) → Key → List ℕ → ℕ → PlainNode → PlainNode
change_node f key bytes count x = record { number = x.number; run = x.run; kind = change_kind f key bytes count x.kind }

-- "`/n_fill` start, count needs both at least 0 and, on a synth, start plus count at most P"; "Negative indices are always refused."
abbrev pub not_negative : Key → ℕ → Bool
not_negative (Index i) count = both (ltb i lowest) (ltb count lowest)
not_negative Name count = ltb count lowest

-- .. and by name no more than it covers, which "on a synth is refused"
abbrev pub has_asked : Key → List ℕ → ℕ → Kind → Bool
has_asked key bytes count group = true
has_asked key bytes count (synth d cs) =
    if_some (asked_for key bytes d) (λ i. both (leb (i + count) (length cs)) (leb count (up_to_width key i count d))) false

-- "On a group these reach every synth at any depth that has the control, and skip the others."
abbrev pub change_below : (PlainNode → PlainNode) → ℕ → Plain → Plain
change_below g n p = record {
  tree = edit number_in n (λ x b a. node (g x) (map_forest g b) a) p.tree;
  names = p.names;
  next = p.next;
  latest = p.latest;
  buses = p.buses;
}

abbrev pub step_changed : (ControlValue → ControlValue) → NodeArgument → Key → ℕ → List ℕ → Plain → Option Plain
step_changed f a key count bytes p =
    and_then (named_in a p)
    (λ x. only_if (both (not_negative key count) (has_asked key bytes count x.kind)) (change_below (change_node f key bytes count) x.number p))

-- "`/n_set`, `/n_fill` store the own float and unmap."
abbrev pub stored : ℕ → ControlValue → ControlValue
stored float c = record { own = float; mapping = Unmapped }

-- "`/n_map` to -1 unmaps and the own float returns (H)."
abbrev pub mapped_to : ℕ → ControlValue → ControlValue
mapped_to bus c = record { own = c.own; mapping = pick (eqb bus minus_one) Unmapped (Bus bus) }

-- "An integer value from -16,777,216 to 16,777,216 becomes the equal float"
abbrev pub float_of : Value → Option ℕ
float_of value = only_if (in_bounds value) (pattern value)

abbrev pub step_controls : ControlCommand → List ℕ → Plain → Option Plain
step_controls (controls.Set a key value) bytes p = and_then (float_of value) (λ float. step_changed (stored float) a key 1 bytes p)
step_controls (controls.Fill a key count value) bytes p = and_then (float_of value) (λ float. step_changed (stored float) a key count bytes p)
step_controls (controls.Map a key bus) bytes p =
    pick (either (eqb bus minus_one) (ltb bus buses_in_all)) (step_changed (mapped_to bus) a key 1 bytes p) none

-- "`/c_set`, `/c_fill` (count 0 allowed up to start 4,096) touch buses only."
abbrev pub change_buses : ℕ → ℕ → Value → List ℕ → Option (List ℕ)
change_buses start count value bs = and_then (float_of value) (λ float. only_if (leb (start + count) buses_in_all) (change_from (λ b. float) start count bs))

abbrev pub step_buses : BusCommand → List ℕ → Option (List ℕ)
step_buses (buses.Set bus value) bs = change_buses bus 1 value bs
step_buses (buses.Fill start count value) bs = change_buses start count value bs

abbrev pub with_plain_buses : List ℕ → Plain → Plain
with_plain_buses bs p = record { tree = p.tree; names = p.names; next = p.next; latest = p.latest; buses = bs }

-- an accepted command; none where the plain tree has no way to do it
unfoldable pub step : Command → List ℕ → Plain → Option Plain
step (command.Definitions c) bytes p = step_definitions c bytes p
step (command.Tree c) bytes p = step_tree c bytes p
step (command.Controls c) bytes p = step_controls c bytes p
step (command.Buses c) bytes p = and_then (step_buses c p.buses) (λ bs. some (with_plain_buses bs p))
step (command.Query q) bytes p = some p

-- "Refused commands and kinds not mentioned here change nothing."
abbrev pub after : Command → List ℕ → Bool → Plain → Option Plain
after c bytes accepted p = pick accepted (step c bytes p) (some p)

-- "Nodes stand in depth-first order, head to tail": the tree as rows
unfoldable pub plain_rows : ℕ → Forest PlainNode → List Row
plain_rows d forest.none = []
plain_rows d (node x b a) = record { depth = d; node = x } ∷ (plain_rows (d + 1) b ++ plain_rows d a)

-- the running order, worked out afresh from the tree
abbrev pub plain_order : Plain → List ℕ
plain_order p = order_tree number_in is_group_node is_on_node p.tree
