-- The refusal table: for each command its checks in the paper's order, each a refusal and whether it fires. The answer is the first that fires.
use Rattle.std.specs.Prelude.{ℕ, ◌+◌, ◌-◌, Bool, true, false, not, List, [], ◌∷◌, length, ltb, leb, eqb}
use Rattle.words.specs.Choice.{pick, both, either}
use Rattle.refusals.specs.declared.Refusal.{Refusal}
use Rattle.refusals.specs.declared.Refusal.TheVariants.{NoSlot, BadFlag, BadNumber, NumberLive, NoDefinition, NoNode, WrongKind, InsideItself, NodesFull, NoControl, NoBus, BadValue, NoRoom, NoNumber, PastWidth}
use Rattle.format.specs.Read.{Read, got, bad}
use Rattle.format.specs.Definition.{Definition}
use Rattle.format.specs.Reader.{read_file, among}
use Rattle.nodes.specs.declared.Node.{Node}
use Rattle.nodes.specs.Place.{is_group, lives}
use Rattle.nodes.specs.Edit.{is_below}
use Rattle.nodes.specs.Formed.{most_nodes, none_left}
use Rattle.values.specs.declared.Key.{Key}
use Rattle.values.specs.declared.NodeArgument.{NodeArgument}
use Rattle.values.specs.Values.{in_bounds}
use Rattle.model.specs.declared.DefinitionCommand.{DefinitionCommand}
use Rattle.model.specs.declared.DefinitionCommand.TheVariants as definitions
use Rattle.model.specs.declared.TreeCommand.{TreeCommand}
use Rattle.model.specs.declared.TreeCommand.TheVariants as tree
use Rattle.model.specs.declared.ControlCommand.{ControlCommand}
use Rattle.model.specs.declared.ControlCommand.TheVariants as controls
use Rattle.model.specs.declared.BusCommand.{BusCommand}
use Rattle.model.specs.declared.BusCommand.TheVariants as buses
use Rattle.model.specs.declared.Query.{Query}
use Rattle.model.specs.declared.Query.TheVariants as query
use Rattle.model.specs.Answers.{Answer}
use Rattle.model.specs.Answers.{Done, Refused, RefusedAt}
use Rattle.model.specs.Layout.{slot_count}
use Rattle.model.specs.Engine.{Slot, Engine, held, name_in, definition_of, resident_of}
use Rattle.words.specs.Patterns.{minus_one}
use Rattle.model.specs.Meaning.{is_negative, meant, known, node, cover_of, has_controls, past_width, negative_key, is_bus, is_bus_range}

pub record Check : Type 0 where
  pub fires : Bool
  pub answer : Answer

abbrev pub check : Refusal → Bool → Check
check r b = record { fires = b; answer = Refused r }

-- the first check that fires, or else the answer
unfoldable pub first_of : List Check → Answer → Answer
first_of [] a = a
first_of (c ∷ cs) a = pick c.fires c.answer (first_of cs a)

-- a file's own fault, with its place
abbrev pub fault_of : Read (List Definition) → Check
fault_of (got ds end) = record { fires = false; answer = Done }
fault_of (bad r at) = record { fires = true; answer = RefusedAt r at }

-- the definitions of a file, none where it is refused
abbrev pub definitions_of : Read (List Definition) → List Definition
definitions_of (got ds end) = ds
definitions_of (bad r at) = []

unfoldable pub names_of : List Definition → List (List ℕ)
names_of [] = []
names_of (d ∷ ds) = d.front.name ∷ names_of ds

-- "the slots that stay taken (held by a synth, or resident under a name not in the file)"
unfoldable pub staying : ℕ → List (List ℕ) → List Slot → List Node → ℕ
staying k names [] t = 0
staying k names (s ∷ more) t =
    pick (either (held k t) (both s.resident (not (among (name_in s) names)))) 1 0 + staying (k + 1) names more t

-- "Refusal 12 is given exactly if D is more than 32 minus the slots that stay taken"
abbrev pub no_slot : List Definition → Engine → Bool
no_slot ds e = ltb (slot_count - staying 0 (names_of ds) e.slots e.nodes) (length ds)

abbrev pub no_resident : List ℕ → Engine → Bool
no_resident name e = leb (length e.slots) (resident_of name e.slots)

-- "add action not 0 to 4"
abbrev pub bad_action : ℕ → Bool
bad_action action = ltb 4 action

abbrev pub is_root : ℕ → Bool
is_root n = eqb n 0

abbrev pub not_group : NodeArgument → Engine → Bool
not_group a e = not (is_group (node a e))

-- "group or synth needed and it isn't; or the root, where it can't be .. replaced or given a sibling": 0 and 1 go into a group, 2 to 4 beside or
-- over a node
abbrev pub bad_target : ℕ → NodeArgument → Engine → Bool
bad_target action target e = pick (ltb action 2) (not_group target e) (is_root (meant target e))

-- "256 nodes live (never for action 4)"
abbrev pub full : ℕ → Engine → Bool
full action e = both (not (eqb action 4)) (leb most_nodes (length e.nodes))

-- "no such control": a negative index or count always; on a synth, controls that it lacks; on a group no more is asked
abbrev pub no_controls : Key → ℕ → List ℕ → NodeArgument → Engine → Bool
no_controls key count bytes target e =
    either (either (negative_key key) (is_negative count))
    (pick (is_group (node target e)) false (not (has_controls (cover_of key bytes (definition_of e.slots (node target e))) count (definition_of e.slots (node target e)))))

-- paper 02, 6/14: "`/n_fill` by name past that width on a synth is refused with 28, after 21": by index 21 comes first, and nothing more is asked;
-- nor is it on a group
abbrev pub past_name : Key → ℕ → List ℕ → NodeArgument → Engine → Bool
past_name key count bytes target e =
    pick (is_group (node target e)) false (past_width (cover_of key bytes (definition_of e.slots (node target e))) count)

-- "`/d_recv`: as under The file": the file's own faults, then 12. "The rest: ascending."
abbrev pub definition_checks : DefinitionCommand → List ℕ → Engine → List Check
definition_checks definitions.Receive bytes e = fault_of (read_file bytes) ∷ (check NoSlot (no_slot (definitions_of (read_file bytes)) e) ∷ [])
definition_checks definitions.Free bytes e = check NoDefinition (no_resident bytes e) ∷ []

-- "no such node": what a node argument is judged by, in every command that has one
abbrev pub node_check : NodeArgument → Engine → Check
node_check a e = check NoNode (not (known a e))

-- "place named for a move is the moved node or below it"
abbrev pub inside : NodeArgument → NodeArgument → Engine → Bool
inside place moved e = is_below (meant place e) (meant moved e) e.nodes

-- "Moves: 17 and then 18, each by argument order, then 19.": to a place beside a node, and into a group
abbrev pub beside_checks : NodeArgument → NodeArgument → Engine → List Check
beside_checks a b e =
    node_check a e
    ∷ (node_check b e
    ∷ (check WrongKind (is_root (meant a e))
    ∷ (check WrongKind (is_root (meant b e))
    ∷ (check InsideItself (inside b a e)
    ∷ []))))

abbrev pub into_checks : NodeArgument → NodeArgument → Engine → List Check
into_checks g a e =
    node_check g e
    ∷ (node_check a e
    ∷ (check WrongKind (not_group g e)
    ∷ (check WrongKind (is_root (meant a e))
    ∷ (check InsideItself (inside g a e)
    ∷ []))))

-- "`/s_new`: 13, 14, 15, 16, 17, 18, 25, 20. `/g_new`: 13, 14, 15, 17, 18, 20."; "`/n_run`: 13, 17."
abbrev pub tree_checks : TreeCommand → List ℕ → Engine → List Check
tree_checks (tree.NewSynth number action target) bytes e =
    check BadFlag (bad_action action)
    ∷ (check BadNumber (both (is_negative number) (not (eqb number minus_one)))
    ∷ (check NumberLive (both (not (eqb number minus_one)) (lives number e.nodes))
    ∷ (check NoDefinition (no_resident bytes e)
    ∷ (node_check target e
    ∷ (check WrongKind (bad_target action target e)
    ∷ (check NoNumber (both (eqb number minus_one) (eqb e.next none_left))
    ∷ (check NodesFull (full action e)
    ∷ [])))))))
tree_checks (tree.NewGroup number action target) bytes e =
    check BadFlag (bad_action action)
    ∷ (check BadNumber (is_negative number)
    ∷ (check NumberLive (lives number e.nodes)
    ∷ (node_check target e
    ∷ (check WrongKind (bad_target action target e)
    ∷ (check NodesFull (full action e)
    ∷ [])))))
tree_checks (tree.Free n) bytes e = node_check n e ∷ (check WrongKind (is_root (meant n e)) ∷ [])
tree_checks (tree.FreeAll g) bytes e = node_check g e ∷ (check WrongKind (not_group g e) ∷ [])
tree_checks (tree.DeepFree g) bytes e = node_check g e ∷ (check WrongKind (not_group g e) ∷ [])
tree_checks (tree.Before a b) bytes e = beside_checks a b e
tree_checks (tree.After a b) bytes e = beside_checks a b e
tree_checks (tree.Head g a) bytes e = into_checks g a e
tree_checks (tree.Tail g a) bytes e = into_checks g a e
tree_checks (tree.Run n flag) bytes e = check BadFlag (ltb 1 flag) ∷ (node_check n e ∷ [])

-- "`/n_set`, `/n_fill`: 17, 23, 21. `/n_map`: 17, 22, 21." With paper 02, 6/14, `/n_fill`: 17, 23, 21, 28.
abbrev pub control_checks : ControlCommand → List ℕ → Engine → List Check
control_checks (controls.Set n key value) bytes e =
    node_check n e
    ∷ (check BadValue (not (in_bounds value))
    ∷ (check NoControl (no_controls key 1 bytes n e)
    ∷ []))
control_checks (controls.Fill n key count value) bytes e =
    node_check n e
    ∷ (check BadValue (not (in_bounds value))
    ∷ (check NoControl (no_controls key count bytes n e)
    ∷ (check PastWidth (past_name key count bytes n e)
    ∷ [])))
control_checks (controls.Map n key bus) bytes e =
    node_check n e
    ∷ (check NoBus (not (either (eqb bus minus_one) (is_bus bus)))
    ∷ (check NoControl (no_controls key 1 bytes n e)
    ∷ []))

-- "`/c_set`, `/c_fill`: 22, 23."
abbrev pub bus_checks : BusCommand → Engine → List Check
bus_checks (buses.Set bus value) e = check NoBus (not (is_bus bus)) ∷ (check BadValue (not (in_bounds value)) ∷ [])
bus_checks (buses.Fill start count value) e = check NoBus (not (is_bus_range start count)) ∷ (check BadValue (not (in_bounds value)) ∷ [])

-- "`/s_get`: 17, 18, 21, 24." "The rest: ascending." The last check, that the reply has room, is common to all.
abbrev pub query_checks : Query → List ℕ → Engine → List Check
query_checks (query.Node n) bytes e = node_check n e ∷ []
query_checks (query.Control n key) bytes e =
    node_check n e
    ∷ (check WrongKind (is_group (node n e))
    ∷ (check NoControl (no_controls key 1 bytes n e)
    ∷ []))
query_checks (query.Bus bus) bytes e = check NoBus (not (is_bus bus)) ∷ []
query_checks (query.Tree g flag) bytes e = node_check g e ∷ (check WrongKind (not_group g e) ∷ [])
query_checks query.Status bytes e = []
query_checks query.Export bytes e = []

-- "reply or export longer than its buffer"
abbrev pub room_check : List ℕ → ℕ → Check
room_check reply room = check NoRoom (ltb room (length reply))
