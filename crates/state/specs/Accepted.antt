-- What acceptance gives, for each command: its checks, by name.
use Prim.{Unit, tt}
use Rattle.std.specs.Prelude.{ℕ, ◌+◌, ◌≤◌, Bool, not, refl, List, ltb, eqb}
use Rattle.std.proofs.Math.Bool.{true, false}
use Rattle.std.proofs.Math.Path.{◌≡◌}
use native.Mathlib.Omega.{arith}
use borrow.Author.Tests.{ltb-true, leb-true, not-false}
use Rattle.words.specs.Choice.{pick, both, either}
use Rattle.words.specs.ChoiceLaws.{both_true}
use Rattle.format.specs.Read.{Read, got, bad}
use Rattle.format.specs.Definition.{Definition}
use Rattle.format.specs.Reader.{read_file}
use Rattle.nodes.specs.declared.Node.{Node}
use Rattle.nodes.specs.Place.{is_group, lives}
use Rattle.nodes.specs.Formed.{none_left}
use Rattle.values.specs.declared.Key.{Key}
use Rattle.values.specs.declared.Value.{Value}
use Rattle.values.specs.declared.NodeArgument.{NodeArgument}
use Rattle.values.specs.declared.Target.{Target}
use Rattle.values.specs.declared.Target.TheVariants.{Latest, Number, Reserved}
use Rattle.values.specs.Targets.{target_of}
use Rattle.values.specs.declared.Mapping.TheVariants.{Unmapped, Bus}
use Rattle.values.specs.Controls.{ControlValue, mapping_word, set_to, map_to}
use Rattle.values.specs.Values.{in_bounds, pattern}
use Rattle.model.specs.declared.DefinitionCommand.{DefinitionCommand}
use Rattle.model.specs.declared.DefinitionCommand.TheVariants as definitions
use Rattle.model.specs.declared.TreeCommand.{TreeCommand}
use Rattle.model.specs.declared.TreeCommand.TheVariants as tree
use Rattle.model.specs.declared.ControlCommand.{ControlCommand}
use Rattle.model.specs.declared.ControlCommand.TheVariants as controls
use Rattle.model.specs.declared.BusCommand.{BusCommand}
use Rattle.model.specs.declared.BusCommand.TheVariants as buses
use Rattle.model.specs.declared.Query.{Query}
use Rattle.model.specs.declared.Query.TheVariants as query
use Rattle.model.specs.declared.Command.{Command}
use Rattle.model.specs.declared.Command.TheVariants as command
use Rattle.model.specs.Answers.{Done}
use Rattle.model.specs.Layout.{bus_count}
use Rattle.model.specs.Engine.{Engine}
use Rattle.words.specs.Patterns.{minus_one}
use Rattle.model.specs.Meaning.{is_negative, meant_by, known_by, meant, known, node, is_bus, mapping_to}
use Rattle.model.specs.Checks.{fault_of, definitions_of, no_slot, no_resident, bad_action, is_root, not_group, bad_target, full, no_controls, past_name, definition_checks, inside, tree_checks, control_checks, bus_checks, query_checks}
use Rattle.model.specs.Apply.{query_answer, answer_in, is_accepted}
use Rattle.state.specs.Refusing.{Passed, all_passed}

-- /s_new and /g_new: where the new node goes
pub record NewNodeAccepted (action : ℕ) (target : NodeArgument) (e : Engine) : Type 0 where
  pub good_action : bad_action action ≡ false
  pub target_known : known target e ≡ true
  pub target_kind : bad_target action target e ≡ false
  pub room : full action e ≡ false

pub record NewSynthAccepted (number action : ℕ) (target : NodeArgument) (bytes : List ℕ) (e : Engine) : Type 0 where
  pub place : NewNodeAccepted action target e
  pub good_number : both (is_negative number) (not (eqb number minus_one)) ≡ false
  pub free_number : both (not (eqb number minus_one)) (lives number e.nodes) ≡ false
  pub number_left : both (eqb number minus_one) (eqb e.next none_left) ≡ false
  pub resident : no_resident bytes e ≡ false

pub record NewGroupAccepted (number action : ℕ) (target : NodeArgument) (e : Engine) : Type 0 where
  pub place : NewNodeAccepted action target e
  pub good_number : is_negative number ≡ false
  pub free_number : lives number e.nodes ≡ false

-- /n_free, /g_freeAll, /g_deepFree and /g_queryTree: of a node of the right kind
pub record NodeAccepted (n : NodeArgument) (wrong_kind : Bool) (e : Engine) : Type 0 where
  pub node_known : known n e ≡ true
  pub node_kind : wrong_kind ≡ false

-- the moves, to a place of the right kind
pub record MoveAccepted (moved place : NodeArgument) (wrong_kind : Bool) (e : Engine) : Type 0 where
  pub moved_known : known moved e ≡ true
  pub place_known : known place e ≡ true
  pub moved_kind : is_root (meant moved e) ≡ false
  pub place_kind : wrong_kind ≡ false
  pub outside : inside place moved e ≡ false

pub record RunAccepted (n : NodeArgument) (flag : ℕ) (e : Engine) : Type 0 where
  pub good_flag : ltb 1 flag ≡ false
  pub node_known : known n e ≡ true

abbrev pub TreeAccepted : TreeCommand → List ℕ → Engine → Type 0
TreeAccepted (tree.NewSynth number action target) bytes e = NewSynthAccepted number action target bytes e
TreeAccepted (tree.NewGroup number action target) bytes e = NewGroupAccepted number action target e
TreeAccepted (tree.Free n) bytes e = NodeAccepted n (is_root (meant n e)) e
TreeAccepted (tree.FreeAll g) bytes e = NodeAccepted g (not_group g e) e
TreeAccepted (tree.DeepFree g) bytes e = NodeAccepted g (not_group g e) e
TreeAccepted (tree.Before a b) bytes e = MoveAccepted a b (is_root (meant b e)) e
TreeAccepted (tree.After a b) bytes e = MoveAccepted a b (is_root (meant b e)) e
TreeAccepted (tree.Head g a) bytes e = MoveAccepted a g (not_group g e) e
TreeAccepted (tree.Tail g a) bytes e = MoveAccepted a g (not_group g e) e
TreeAccepted (tree.Run n flag) bytes e = RunAccepted n flag e

-- /n_set, /n_fill and /n_map: the change maps to a bus or to none
pub record ChangeAccepted (f : ControlValue → ControlValue) (n : NodeArgument) (key : Key) (count : ℕ) (bad_value : Bool) (bytes : List ℕ) (e : Engine) : Type 0 where
  pub node_known : known n e ≡ true
  pub good_value : bad_value ≡ false
  pub bus_low : (v : ControlValue) → mapping_word (f v).mapping ≤ bus_count
  pub controls : no_controls key count bytes n e ≡ false

-- /n_fill: by name on a synth, of no more controls than the name covers
pub record FillAccepted (n : NodeArgument) (key : Key) (count : ℕ) (value : Value) (bytes : List ℕ) (e : Engine) : Type 0 where
  pub change : ChangeAccepted (set_to (pattern value)) n key count (not (in_bounds value)) bytes e
  pub in_width : past_name key count bytes n e ≡ false

abbrev pub ControlAccepted : ControlCommand → List ℕ → Engine → Type 0
ControlAccepted (controls.Set n key value) bytes e = ChangeAccepted (set_to (pattern value)) n key 1 (not (in_bounds value)) bytes e
ControlAccepted (controls.Fill n key count value) bytes e = FillAccepted n key count value bytes e
ControlAccepted (controls.Map n key bus) bytes e = ChangeAccepted (map_to (mapping_to bus)) n key 1 (not (either (eqb bus minus_one) (is_bus bus))) bytes e

-- /c_set, of one bus, and /c_fill
pub record BusesAccepted (start count : ℕ) (value : Value) : Type 0 where
  pub low : start + count ≤ bus_count
  pub good_value : in_bounds value ≡ true

abbrev pub BusAccepted : BusCommand → Type 0
BusAccepted (buses.Set bus value) = BusesAccepted bus 1 value
BusAccepted (buses.Fill start count value) = BusesAccepted start count value

-- /d_recv: the file reads, and its definitions have slots
pub record FileAccepted (r : Read (List Definition)) (e : Engine) : Type 0 where
  pub past : ℕ
  pub reads : r ≡ got (definitions_of r) past
  pub room : no_slot (definitions_of r) e ≡ false

abbrev pub DefinitionAccepted : DefinitionCommand → List ℕ → Engine → Type 0
DefinitionAccepted definitions.Receive bytes e = FileAccepted (read_file bytes) e
DefinitionAccepted definitions.Free bytes e = no_resident bytes e ≡ false

-- /s_get: of a synth
pub record ControlAsked (n : NodeArgument) (key : Key) (bytes : List ℕ) (e : Engine) : Type 0 where
  pub node_known : known n e ≡ true
  pub node_kind : is_group (node n e) ≡ false
  pub controls : no_controls key 1 bytes n e ≡ false

abbrev pub QueryAccepted : Query → List ℕ → Engine → Type 0
QueryAccepted (query.Node n) bytes e = known n e ≡ true
QueryAccepted (query.Control n key) bytes e = ControlAsked n key bytes e
QueryAccepted (query.Bus bus) bytes e = is_bus bus ≡ true
QueryAccepted (query.Tree g flag) bytes e = NodeAccepted g (not_group g e) e
QueryAccepted query.Status bytes e = Unit {0}
QueryAccepted query.Export bytes e = Unit {0}

abbrev pub Accepted : Command → List ℕ → Engine → Type 0
Accepted (command.Definitions c) bytes e = DefinitionAccepted c bytes e
Accepted (command.Tree c) bytes e = TreeAccepted c bytes e
Accepted (command.Controls c) bytes e = ControlAccepted c bytes e
Accepted (command.Buses c) bytes e = BusAccepted c
Accepted (command.Query q) bytes e = QueryAccepted q bytes e

-- each from the checks that passed
module _ (bytes : List ℕ) (e : Engine) where
  tree_facts : (c : TreeCommand) → Passed (tree_checks c bytes e) → TreeAccepted c bytes e
  unfolding Passed
  tree_facts (tree.NewSynth number action target) (a, (b, (f, (d, (n, (k, (l, (r, end)))))))) =
      record { place = record { good_action = a; target_known = not-false _ n; target_kind = k; room = r }; good_number = b; free_number = f; number_left = l; resident = d }
  tree_facts (tree.NewGroup number action target) (a, (b, (f, (n, (k, (r, end)))))) =
      record { place = record { good_action = a; target_known = not-false _ n; target_kind = k; room = r }; good_number = b; free_number = f }
  tree_facts (tree.Free n) (k, (w, end)) = record { node_known = not-false _ k; node_kind = w }
  tree_facts (tree.FreeAll g) (k, (w, end)) = record { node_known = not-false _ k; node_kind = w }
  tree_facts (tree.DeepFree g) (k, (w, end)) = record { node_known = not-false _ k; node_kind = w }
  tree_facts (tree.Before a b) (k, (l, (m, (p, (i, end))))) = record { moved_known = not-false _ k; place_known = not-false _ l; moved_kind = m; place_kind = p; outside = i }
  tree_facts (tree.After a b) (k, (l, (m, (p, (i, end))))) = record { moved_known = not-false _ k; place_known = not-false _ l; moved_kind = m; place_kind = p; outside = i }
  tree_facts (tree.Head g a) (l, (k, (p, (m, (i, end))))) = record { moved_known = not-false _ k; place_known = not-false _ l; moved_kind = m; place_kind = p; outside = i }
  tree_facts (tree.Tail g a) (l, (k, (p, (m, (i, end))))) = record { moved_known = not-false _ k; place_known = not-false _ l; moved_kind = m; place_kind = p; outside = i }
  tree_facts (tree.Run n flag) (f, (k, end)) = record { good_flag = f; node_known = not-false _ k }

  control_facts : (c : ControlCommand) → Passed (control_checks c bytes e) → ControlAccepted c bytes e
  unfolding Passed
  control_facts (controls.Set n key value) (k, (v, (c, end))) = record { node_known = not-false _ k; good_value = v; bus_low = λ x. omega arith; controls = c }
  control_facts (controls.Fill n key count value) (k, (v, (c, (w, end)))) =
      record { change = record { node_known = not-false _ k; good_value = v; bus_low = λ x. omega arith; controls = c }; in_width = w }
  control_facts (controls.Map n key bus) (k, (v, (c, end))) = record { node_known = not-false _ k; good_value = v; bus_low = λ x. low (eqb bus minus_one) (not-false _ v); controls = c }
    where
      low : (b : Bool) → either b (is_bus bus) ≡ true → mapping_word (pick b Unmapped (Bus bus)) ≤ bus_count
      low true q = omega arith
      low false q = omega (arith, ltb-true bus bus_count q)

  bus_facts : (c : BusCommand) → Passed (bus_checks c e) → BusAccepted c
  unfolding Passed
  bus_facts (buses.Set bus value) (b, (v, end)) = record { low = omega (arith, ltb-true bus bus_count (not-false _ b)); good_value = not-false _ v }
  bus_facts (buses.Fill start count value) (b, (v, end)) =
      record { low = leb-true (start + count) bus_count (both_true (not (is_negative count)) _ (not-false _ b)).1; good_value = not-false _ v }

  definition_facts : (c : DefinitionCommand) → Passed (definition_checks c bytes e) → DefinitionAccepted c bytes e
  unfolding Passed
  definition_facts definitions.Receive (f, (r, end)) = file_facts (read_file bytes) f r
    where
      file_facts : (r : Read (List Definition)) → (fault_of r).fires ≡ false → no_slot (definitions_of r) e ≡ false → FileAccepted r e
      file_facts (got ds past) f r = record { past = past; reads = refl; room = r }
      file_facts (bad q at) f r = absurd (let z : ◌≡◌ {A = ℕ} 0 1 = cc in omega arith)
  definition_facts definitions.Free (r, end) = r

  query_facts : (q : Query) → Passed (query_checks q bytes e) → QueryAccepted q bytes e
  unfolding Passed
  query_facts (query.Node n) (k, end) = not-false _ k
  query_facts (query.Control n key) (k, (w, (c, end))) = record { node_known = not-false _ k; node_kind = w; controls = c }
  query_facts (query.Bus bus) (b, end) = not-false _ b
  query_facts (query.Tree g flag) (k, (w, end)) = record { node_known = not-false _ k; node_kind = w }
  query_facts query.Status end = tt
  query_facts query.Export end = tt

  pub accepted : (c : Command) (room : ℕ) → is_accepted (answer_in c bytes e room) ≡ true → Accepted c bytes e
  unfolding answer_in query_answer
  accepted (command.Definitions c) room h = definition_facts c (all_passed (command.Definitions c) bytes e Done h)
  accepted (command.Tree c) room h = tree_facts c (all_passed (command.Tree c) bytes e Done h)
  accepted (command.Controls c) room h = control_facts c (all_passed (command.Controls c) bytes e Done h)
  accepted (command.Buses c) room h = bus_facts c (all_passed (command.Buses c) bytes e Done h)
  accepted (command.Query q) room h = query_facts q (all_passed (command.Query q) bytes e _ h)

-- an argument that names a node: its number lives
named_lives : (x : Target) (latest : ℕ) (t : List Node) → known_by x latest t ≡ true → lives (meant_by x latest) t ≡ true
named_lives Latest latest t h = (both_true (not (eqb latest 0)) (lives latest t) h).1
named_lives (Number n) latest t h = h
named_lives Reserved latest t h = cc

pub known_lives : (a : NodeArgument) (e : Engine) → known a e ≡ true → lives (meant a e) e.nodes ≡ true
known_lives a e h = named_lives (target_of a.number) e.latest e.nodes h
