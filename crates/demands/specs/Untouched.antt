-- Demand 3, of one accepted command: a node outside the subtrees that it adds, moves, sets, maps, turns on or off, or frees keeps its kind, parent,
-- definition, run flag and controls.
use Rattle.std.specs.Prelude.{ℕ, Bool, true, false, ◌≡◌, refl, List, eqb}
use Rattle.std.proofs.Common.{subst, arith}
use Rattle.words.specs.Choice.{pick, both, either}
use Rattle.words.specs.Bytes.{AreBytes}
use Rattle.nodes.specs.declared.Node.{Node}
use Rattle.nodes.specs.Edit.{is_below, cut}
use Rattle.nodes.specs.Formed.{free_row}
use Rattle.treerefinement.specs.Keep.{within_formed}
use Rattle.treerefinement.specs.Left.{left, left_cut}
use Rattle.treerefinement.specs.Untouched.{Untouched}
use Rattle.values.specs.declared.NodeArgument.{NodeArgument}
use Rattle.values.specs.declared.Key.{Key}
use Rattle.values.specs.Controls.{ControlValue}
use Rattle.model.specs.declared.DefinitionCommand.{DefinitionCommand}
use Rattle.model.specs.declared.DefinitionCommand.TheVariants as definitions
use Rattle.model.specs.declared.TreeCommand.{TreeCommand}
use Rattle.model.specs.declared.TreeCommand.TheVariants as tree
use Rattle.model.specs.declared.ControlCommand.{ControlCommand}
use Rattle.model.specs.declared.ControlCommand.TheVariants as controls
use Rattle.model.specs.declared.Command.{Command}
use Rattle.model.specs.declared.Command.TheVariants as command
use Rattle.model.specs.Layout.{lengths_in}
use Rattle.model.specs.Engine.{Engine, decode, resident_of}
use Rattle.model.specs.View.{view_of, view}
use Rattle.model.specs.Meaning.{meant}
use Rattle.model.specs.Effects.{changed, staying_nodes, number_for, definition_effect, tree_effect, control_effect, effect}
use Rattle.model.specs.Formed.{formed}
use Rattle.model.specs.Apply.{answer_in, is_accepted}
use Rattle.model.specs.Frame.{touched, entries_left}
use Rattle.state.specs.Known.{known}
use Rattle.state.specs.Accepted.{NewSynthAccepted, TreeAccepted, ChangeAccepted, ControlAccepted, DefinitionAccepted, Accepted, accepted}
use Rattle.preservation.specs.TreeSteps.{Sound, synth_comes}
use Rattle.preservation.specs.TreeKept.{known_sound}
use Rattle.refinement.specs.ControlsReplay.{AllOf}
use Rattle.demands.specs.FrameSeen.{entries_stay, all_left, all_of}
use Rattle.demands.specs.TreeUntouched.{tree_untouched}
use Rattle.demands.specs.FrameAlike.{controls_alike, synth-alike, definitions_alike}

-- where the nodes are the same
same_nodes : (test : ℕ → Bool) (t : List Node) → Untouched test t t
same_nodes test t = record { records = refl; parents = λ m e. refl }

module _ (bytes sizes : List ℕ) (e : Engine) (k : Sound sizes e) where
  -- a command of the tree kind, by how the records that are left are seen
  tree_entries : (c : TreeCommand) → TreeAccepted c bytes e
      → AllOf (λ (r : Node). view_of e.slots e.controls r ≡ view_of (tree_effect c bytes e).slots (tree_effect c bytes e).controls r) (left (touched true (command.Tree c) e) e.nodes)
      → entries_left (touched true (command.Tree c) e) e.nodes (view e) ≡ entries_left (touched true (command.Tree c) e) (tree_effect c bytes e).nodes (view (tree_effect c bytes e))
  tree_entries c h all =
      entries_stay (touched true (command.Tree c) e) e.slots (tree_effect c bytes e).slots e.controls (tree_effect c bytes e).controls e.nodes (tree_effect c bytes e).nodes
      (tree_untouched e k.tree.root k.tree.distinct (touched true (command.Tree c) e) c bytes h (λ m b. b)) all

  -- that changes neither slots nor controls
  plain : (c : TreeCommand) → (tree_effect c bytes e).slots ≡ e.slots → (tree_effect c bytes e).controls ≡ e.controls → TreeAccepted c bytes e
      → entries_left (touched true (command.Tree c) e) e.nodes (view e) ≡ entries_left (touched true (command.Tree c) e) (tree_effect c bytes e).nodes (view (tree_effect c bytes e))
  plain c s q h = tree_entries c h (all_of (λ r. rw (s, q)) (left (touched true (command.Tree c) e) e.nodes))

  -- the new synth, which has a row of its own
  module _ (number action : ℕ) (target : NodeArgument) (h : NewSynthAccepted number action target bytes e) where
    abbrev made : TreeCommand
    made = tree.NewSynth number action target

    abbrev n : ℕ
    n = meant target e

    abbrev stays : List Node
    stays = staying_nodes action n e.nodes

    -- the records that are left are of nodes that stay
    left_stays : left (touched true (command.Tree made) e) stays ≡ left (touched true (command.Tree made) e) e.nodes
    left_stays = go (eqb action 4) refl
      where
        over : (m : ℕ) (p q : Bool) → p ≡ true → q ≡ true → either (either (eqb (number_for number e.next) m) (both p q)) false ≡ true
        over m p q a b = rw (a, b) (both_ways (eqb (number_for number e.next) m))
          where
            both_ways : (b : Bool) → either (either b true) false ≡ true
            both_ways true = refl
            both_ways false = refl

        go : (b : Bool) → eqb action 4 ≡ b → left (touched true (command.Tree made) e) (pick b (cut n e.nodes) e.nodes) ≡ left (touched true (command.Tree made) e) e.nodes
        go true q = left_cut (touched true (command.Tree made) e) n e.nodes (λ m b. over m (eqb action 4) (is_below m n e.nodes) q b)
        go false q = refl

    synth_entries : entries_left (touched true (command.Tree made) e) e.nodes (view e) ≡ entries_left (touched true (command.Tree made) e) (tree_effect made bytes e).nodes (view (tree_effect made bytes e))
    synth_entries =
        let c = synth_comes sizes e k number action target bytes h in
        tree_entries made h
        (subst (λ (l : List Node). AllOf (λ (r : Node). view_of e.slots e.controls r ≡ view_of e.slots (tree_effect made bytes e).controls r) l) left_stays
        (all_left (λ (r : Node). view_of e.slots e.controls r ≡ view_of e.slots (tree_effect made bytes e).controls r) (touched true (command.Tree made) e) stays
        (synth-alike e.slots e.controls k.words (resident_of bytes e.slots) (free_row stays) e.next c.row_low stays c.row_free (within_formed c.added.within e.next k.tree.fields))))

  tree_step : (c : TreeCommand) → TreeAccepted c bytes e
      → entries_left (touched true (command.Tree c) e) e.nodes (view e) ≡ entries_left (touched true (command.Tree c) e) (tree_effect c bytes e).nodes (view (tree_effect c bytes e))
  tree_step (tree.NewSynth number action target) h = synth_entries number action target h
  tree_step (tree.NewGroup number action target) h = plain (tree.NewGroup number action target) refl refl h
  tree_step (tree.Free a) h = plain (tree.Free a) refl refl h
  tree_step (tree.FreeAll g) h = plain (tree.FreeAll g) refl refl h
  tree_step (tree.DeepFree g) h = plain (tree.DeepFree g) refl refl h
  tree_step (tree.Before a b) h = plain (tree.Before a b) refl refl h
  tree_step (tree.After a b) h = plain (tree.After a b) refl refl h
  tree_step (tree.Head g a) h = plain (tree.Head g a) refl refl h
  tree_step (tree.Tail g a) h = plain (tree.Tail g a) refl refl h
  tree_step (tree.Run a flag) h = plain (tree.Run a flag) refl refl h

  definition_step : (c : DefinitionCommand) → DefinitionAccepted c bytes e
      → entries_left (λ m. false) e.nodes (view e) ≡ entries_left (λ m. false) (definition_effect c bytes e).nodes (view (definition_effect c bytes e))
  definition_step definitions.Receive h =
      entries_stay (λ m. false) e.slots (definition_effect definitions.Receive bytes e).slots e.controls e.controls e.nodes e.nodes (same_nodes (λ m. false) e.nodes)
      (all_left _ (λ m. false) e.nodes (definitions_alike definitions.Receive bytes e k.many h))
  definition_step definitions.Free h =
      entries_stay (λ m. false) e.slots (definition_effect definitions.Free bytes e).slots e.controls e.controls e.nodes e.nodes (same_nodes (λ m. false) e.nodes)
      (all_left _ (λ m. false) e.nodes (definitions_alike definitions.Free bytes e k.many h))

  change_step : {f : ControlValue → ControlValue} {n : NodeArgument} {key : Key} {count : ℕ} {bad_value : Bool} → ChangeAccepted f n key count bad_value bytes e
      → entries_left (λ m. is_below m (meant n e) e.nodes) e.nodes (view e) ≡ entries_left (λ m. is_below m (meant n e) e.nodes) e.nodes (view (changed f n key count bytes e))
  change_step {f} {n} {key} {count} h =
      entries_stay (λ m. is_below m (meant n e) e.nodes) e.slots e.slots e.controls (changed f n key count bytes e).controls e.nodes e.nodes
      (same_nodes (λ m. is_below m (meant n e) e.nodes) e.nodes)
      (controls_alike f (λ v. omega (arith, h.bus_low v)) key bytes count (meant n e) e.next e.slots e.controls e.nodes k.words k.tree.rows_differ k.tree.fields)

  control_step : (c : ControlCommand) → ControlAccepted c bytes e
      → entries_left (touched true (command.Controls c) e) e.nodes (view e) ≡ entries_left (touched true (command.Controls c) e) (control_effect c bytes e).nodes (view (control_effect c bytes e))
  control_step (controls.Set n key value) h = change_step h
  control_step (controls.Fill n key count value) h = change_step h.change
  control_step (controls.Map n key bus) h = change_step h

pub untouched_step : (c : Command) (bytes ws bs : List ℕ) (room : ℕ) → AreBytes bytes → formed ws bs ≡ true → is_accepted (answer_in c bytes (decode ws bs) room) ≡ true
    → entries_left (touched true c (decode ws bs)) (decode ws bs).nodes (view (decode ws bs))
    ≡ entries_left (touched true c (decode ws bs)) (effect c bytes (decode ws bs)).nodes (view (effect c bytes (decode ws bs)))
unfolding effect
untouched_step c bytes ws bs room b f h = go c (accepted bytes (decode ws bs) c room h)
  where
    sound : Sound (lengths_in ws) (decode ws bs)
    sound = known_sound ws bs (known ws bs f)

    go : (c : Command) → Accepted c bytes (decode ws bs)
        → entries_left (touched true c (decode ws bs)) (decode ws bs).nodes (view (decode ws bs))
        ≡ entries_left (touched true c (decode ws bs)) (effect c bytes (decode ws bs)).nodes (view (effect c bytes (decode ws bs)))
    go (command.Definitions c) a = definition_step bytes _ (decode ws bs) sound c a
    go (command.Tree c) a = tree_step bytes _ (decode ws bs) sound c a
    go (command.Controls c) a = control_step bytes _ (decode ws bs) sound c a
    go (command.Buses c) a = refl
    go (command.Query q) a = refl
