-- What a command doesn't touch: which nodes it displaces and which it touches, and what is left of a tree beside them.
use Rattle.std.specs.Prelude.{ℕ, Bool, true, false, not, List, [], ◌∷◌, eqb}
use Rattle.words.specs.Choice.{pick, both, either}
use Rattle.nodes.specs.declared.Node.{Node}
use Rattle.nodes.specs.Place.{is_group}
use Rattle.nodes.specs.Edit.{is_below}
use Rattle.nodes.specs.Structure.{parent_of}
use Rattle.values.specs.declared.NodeArgument.{NodeArgument}
use Rattle.model.specs.declared.TreeCommand.{TreeCommand}
use Rattle.model.specs.declared.TreeCommand.TheVariants as tree
use Rattle.model.specs.declared.ControlCommand.{ControlCommand}
use Rattle.model.specs.declared.ControlCommand.TheVariants as controls
use Rattle.model.specs.declared.Command.{Command}
use Rattle.model.specs.declared.Command.TheVariants as command
use Rattle.model.specs.Engine.{Engine}
use Rattle.model.specs.View.{PlainNode, Row}
use Rattle.model.specs.Meaning.{meant, node_named}
use Rattle.model.specs.Effects.{number_for}

-- the node n is in a subtree that the command adds, moves or frees
abbrev pub displaced_by : TreeCommand → Engine → ℕ → Bool
displaced_by (tree.NewSynth number action target) e n =
    either (eqb (number_for number e.next) n) (both (eqb action 4) (is_below n (meant target e) e.nodes))
displaced_by (tree.NewGroup number action target) e n = either (eqb number n) (both (eqb action 4) (is_below n (meant target e) e.nodes))
displaced_by (tree.Free a) e n = is_below n (meant a e) e.nodes
displaced_by (tree.FreeAll g) e n = both (is_below n (meant g e) e.nodes) (not (eqb n (meant g e)))
displaced_by (tree.DeepFree g) e n = both (is_below n (meant g e) e.nodes) (not (is_group (node_named n e.nodes)))
displaced_by (tree.Before a b) e n = is_below n (meant a e) e.nodes
displaced_by (tree.After a b) e n = is_below n (meant a e) e.nodes
displaced_by (tree.Head g a) e n = is_below n (meant a e) e.nodes
displaced_by (tree.Tail g a) e n = is_below n (meant a e) e.nodes
displaced_by (tree.Run a flag) e n = false

-- a refused command displaces none
abbrev pub displaced : Bool → Command → Engine → ℕ → Bool
displaced false c e n = false
displaced true (command.Definitions c) e n = false
displaced true (command.Tree c) e n = displaced_by c e n
displaced true (command.Controls c) e n = false
displaced true (command.Buses c) e n = false
displaced true (command.Query q) e n = false

-- .. or that it turns on or off, sets or maps
abbrev pub turned_by : TreeCommand → Engine → ℕ → Bool
turned_by (tree.NewSynth number action target) e n = false
turned_by (tree.NewGroup number action target) e n = false
turned_by (tree.Free a) e n = false
turned_by (tree.FreeAll g) e n = false
turned_by (tree.DeepFree g) e n = false
turned_by (tree.Before a b) e n = false
turned_by (tree.After a b) e n = false
turned_by (tree.Head g a) e n = false
turned_by (tree.Tail g a) e n = false
turned_by (tree.Run a flag) e n = is_below n (meant a e) e.nodes

abbrev pub control_node : ControlCommand → NodeArgument
control_node (controls.Set n key value) = n
control_node (controls.Fill n key count value) = n
control_node (controls.Map n key bus) = n

-- .. and touches none
abbrev pub touched : Bool → Command → Engine → ℕ → Bool
touched false c e n = false
touched true (command.Definitions c) e n = false
touched true (command.Tree c) e n = either (displaced_by c e n) (turned_by c e n)
touched true (command.Controls c) e n = is_below n (meant (control_node c) e) e.nodes
touched true (command.Buses c) e n = false
touched true (command.Query q) e n = false

-- the numbers of rows that fail a test
unfoldable pub numbers_left : (ℕ → Bool) → List Row → List ℕ
numbers_left test [] = []
numbers_left test (r ∷ l) = pick (test r.node.number) (numbers_left test l) (r.node.number ∷ numbers_left test l)

-- a node with its parent
pub record Entry : Type 0 where
  pub node : PlainNode
  pub parent : ℕ

-- the nodes whose numbers fail a test, each with its parent in the tree t
unfoldable pub entries_left : (ℕ → Bool) → List Node → List Row → List Entry
entries_left test t [] = []
entries_left test t (r ∷ l) =
    pick (test r.node.number) (entries_left test t l) (record { node = r.node; parent = parent_of r.node.number t } ∷ entries_left test t l)
