-- Demand 3, of one accepted command: nodes that it neither adds, moves nor frees keep their order among themselves.
use Rattle.std.specs.Prelude.{ℕ, Bool, true, false, ◌≡◌, refl, List}
use Rattle.std.proofs.Common.{sym, ap, ◌∙◌}
use Rattle.words.specs.Choice.{either}
use Rattle.words.specs.Bytes.{AreBytes}
use Rattle.nodes.specs.declared.Node.{Node}
use Rattle.nodes.specs.Formed.{rooted, apart}
use Rattle.nodes.specs.Table.{numbers}
use Rattle.treerefinement.specs.Left.{left, numbers_set_run}
use Rattle.model.specs.declared.DefinitionCommand.{DefinitionCommand}
use Rattle.model.specs.declared.DefinitionCommand.TheVariants as definitions
use Rattle.model.specs.declared.TreeCommand.{TreeCommand}
use Rattle.model.specs.declared.TreeCommand.TheVariants as tree
use Rattle.model.specs.declared.ControlCommand.{ControlCommand}
use Rattle.model.specs.declared.ControlCommand.TheVariants as controls
use Rattle.model.specs.declared.Command.{Command}
use Rattle.model.specs.declared.Command.TheVariants as command
use Rattle.model.specs.Engine.{Engine, decode}
use Rattle.model.specs.View.{view}
use Rattle.model.specs.Meaning.{meant}
use Rattle.model.specs.Effects.{definition_effect, tree_effect, control_effect, effect}
use Rattle.model.specs.Formed.{formed}
use Rattle.model.specs.Apply.{answer_in, is_accepted}
use Rattle.model.specs.Frame.{displaced_by, turned_by, displaced, numbers_left}
use Rattle.state.specs.Known.{known}
use Rattle.state.specs.Accepted.{TreeAccepted, accepted}
use Rattle.preservation.specs.TreeKept.{known_sound}
use Rattle.demands.specs.FrameSeen.{numbers_view}
use Rattle.demands.specs.TreeUntouched.{tree_untouched}

-- by the records alone
ordered_by : (test : ℕ → Bool) (e after : Engine) → numbers (left test after.nodes) ≡ numbers (left test e.nodes) → numbers_left test (view e) ≡ numbers_left test (view after)
ordered_by test e after h =
    numbers_view test e.slots e.controls e.nodes ∙ sym h ∙ sym (numbers_view test after.slots after.controls after.nodes)

module _ (e : Engine) (root : rooted e.nodes ≡ true) (distinct : apart e.nodes ≡ true) (bytes : List ℕ) where
  -- a command that turns no node on or off
  still : (c : TreeCommand) → ((m : ℕ) → turned_by c e m ≡ false) → TreeAccepted c bytes e
      → numbers (left (displaced_by c e) (tree_effect c bytes e).nodes) ≡ numbers (left (displaced_by c e) e.nodes)
  still c q h =
      ap numbers
      (tree_untouched e root distinct (displaced_by c e) c bytes h (λ m b. plain (displaced_by c e m) (ap (λ (p : Bool). either (displaced_by c e m) p) (sym (q m)) ∙ b))).records
    where
      plain : (b : Bool) → either b false ≡ true → b ≡ true
      plain true k = refl
      plain false k = k

  order_nodes : (c : TreeCommand) → TreeAccepted c bytes e → numbers (left (displaced_by c e) (tree_effect c bytes e).nodes) ≡ numbers (left (displaced_by c e) e.nodes)
  order_nodes (tree.NewSynth number action target) h = still (tree.NewSynth number action target) (λ m. refl) h
  order_nodes (tree.NewGroup number action target) h = still (tree.NewGroup number action target) (λ m. refl) h
  order_nodes (tree.Free a) h = still (tree.Free a) (λ m. refl) h
  order_nodes (tree.FreeAll g) h = still (tree.FreeAll g) (λ m. refl) h
  order_nodes (tree.DeepFree g) h = still (tree.DeepFree g) (λ m. refl) h
  order_nodes (tree.Before a b) h = still (tree.Before a b) (λ m. refl) h
  order_nodes (tree.After a b) h = still (tree.After a b) (λ m. refl) h
  order_nodes (tree.Head g a) h = still (tree.Head g a) (λ m. refl) h
  order_nodes (tree.Tail g a) h = still (tree.Tail g a) (λ m. refl) h
  order_nodes (tree.Run a flag) h = numbers_set_run (λ n. false) (meant a e) flag e.nodes

-- commands of definitions and of controls leave the nodes
definition_nodes : (c : DefinitionCommand) (bytes : List ℕ) (e : Engine) → (definition_effect c bytes e).nodes ≡ e.nodes
definition_nodes definitions.Receive bytes e = refl
definition_nodes definitions.Free bytes e = refl

control_nodes : (c : ControlCommand) (bytes : List ℕ) (e : Engine) → (control_effect c bytes e).nodes ≡ e.nodes
control_nodes (controls.Set n key value) bytes e = refl
control_nodes (controls.Fill n key count value) bytes e = refl
control_nodes (controls.Map n key bus) bytes e = refl

pub ordered_step : (c : Command) (bytes ws bs : List ℕ) (room : ℕ) → AreBytes bytes → formed ws bs ≡ true → is_accepted (answer_in c bytes (decode ws bs) room) ≡ true
    → numbers_left (displaced true c (decode ws bs)) (view (decode ws bs)) ≡ numbers_left (displaced true c (decode ws bs)) (view (effect c bytes (decode ws bs)))
unfolding effect
ordered_step (command.Definitions c) bytes ws bs room b f h =
    let e = decode ws bs in
    ordered_by (λ n. false) e (definition_effect c bytes e) (ap (λ (t : List Node). numbers (left (λ n. false) t)) (definition_nodes c bytes e))
ordered_step (command.Tree c) bytes ws bs room b f h =
    let e = decode ws bs in
    let s = (known_sound ws bs (known ws bs f)).tree in
    ordered_by (displaced_by c e) e (tree_effect c bytes e) (order_nodes e s.root s.distinct bytes c (accepted bytes e (command.Tree c) room h))
ordered_step (command.Controls c) bytes ws bs room b f h =
    let e = decode ws bs in
    ordered_by (λ n. false) e (control_effect c bytes e) (ap (λ (t : List Node). numbers (left (λ n. false) t)) (control_nodes c bytes e))
ordered_step (command.Buses c) bytes ws bs room b f h = refl
ordered_step (command.Query q) bytes ws bs room b f h = refl
