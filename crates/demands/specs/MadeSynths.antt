-- Demand 3, each synth has the definition its name meant when it was made: of one accepted command.
use Rattle.std.specs.Prelude.{ℕ, Bool, true, false, ◌≡◌, refl, List, length, eqb}
use Rattle.std.proofs.Common.{sym, ap, ◌∙◌, arith, eqb-true, lt-ltb}
use Rattle.std.proofs.Math.Option.{Option, none, some}
use Rattle.words.specs.Choice.{pick}
use Rattle.format.specs.Definition.{Definition}
use Rattle.nodes.specs.declared.Node.{Node}
use Rattle.nodes.specs.Edit.{cut, cut_below, deep_free, set_run, move_before, move_after, move_head, move_tail, add_by}
use Rattle.treerefinement.specs.Tally.{same_within, cut_within, cut_below_within, deep_free_within, move_before_same, move_after_same, move_head_same, move_tail_same}
use Rattle.treerefinement.specs.Keep.{within_lives, within_apart}
use Rattle.state.specs.Accepted.{TreeAccepted}
use Rattle.preservation.specs.Every.{Fewer, within_fewer, run_fewer}
use Rattle.preservation.specs.TreeSteps.{Sound, place_stays, synth_for, comes, synth_comes}
use Rattle.model.specs.declared.TreeCommand.{TreeCommand}
use Rattle.model.specs.declared.TreeCommand.TheVariants as tree
use Rattle.model.specs.declared.ControlCommand.{ControlCommand}
use Rattle.model.specs.declared.ControlCommand.TheVariants as controls
use Rattle.model.specs.Engine.{Engine, definition_in, slot_at, resident_of}
use Rattle.model.specs.View.{view_rows, view}
use Rattle.model.specs.Meaning.{meant}
use Rattle.model.specs.Effects.{new_group, number_for, tree_effect, control_effect}
use Rattle.model.specs.Demands.{meaning_in, made_by, definition_of_synth}
use Rattle.refinement.specs.SynthDefinitions.{definition_at, definition_view, fewer_definition, grown_definition, group_definition, new_definition}

-- what a command of controls leaves alone
pub controls_made : (c : ControlCommand) (bytes : List ℕ) (e : Engine) (n : ℕ) → definition_of_synth n (view (control_effect c bytes e)) ≡ definition_of_synth n (view e)
controls_made (controls.Set a key value) bytes e n = definition_view e.slots _ n e.nodes ∙ sym (definition_view e.slots e.controls n e.nodes)
controls_made (controls.Fill a key count value) bytes e n = definition_view e.slots _ n e.nodes ∙ sym (definition_view e.slots e.controls n e.nodes)
controls_made (controls.Map a key bus) bytes e n = definition_view e.slots _ n e.nodes ∙ sym (definition_view e.slots e.controls n e.nodes)

-- commands of the tree
module _ (bytes sizes : List ℕ) (e : Engine) (s : Sound sizes e) (n : ℕ) (d : Definition) where
  -- a synth after is a synth before, where nothing came in
  was : (t : List Node) → Fewer t e.nodes → definition_of_synth n (view_rows e.slots e.controls t) ≡ some d → definition_of_synth n (view e) ≡ some d
  was t f v =
      definition_view e.slots e.controls n e.nodes
      ∙ fewer_definition e.slots n d f s.tree.distinct (sym (definition_view e.slots e.controls n t) ∙ v)

  pub tree_made : (c : TreeCommand) (before : Option Definition) → TreeAccepted c bytes e → (definition_of_synth n (view e) ≡ some d → before ≡ some d)
      → definition_of_synth n (view (tree_effect c bytes e)) ≡ some d → made_by c bytes e n before ≡ some d
  tree_made (tree.NewSynth number action target) before h old v =
      let c = synth_comes sizes e s number action target bytes h in
      let a = c.added in
      let slot = resident_of bytes e.slots in
      let x = synth_for number action target bytes e in
      let fresh = number_for number e.next in
      let after = add_by action x (meant target e) e.nodes in
      let w : definition_at e.slots n after ≡ some d = sym (definition_view e.slots _ n after) ∙ v in
      go fresh (eqb fresh n) refl
      (λ q. ap (λ (b : Bool). pick b (some (definition_in (slot_at e.slots slot))) none) (lt-ltb slot (length e.slots) (omega (arith, c.slot_low, s.many)))
      ∙ ap (λ (y : Definition). some y) (new_definition e.slots d x a.grown (within_lives fresh a.within c.given.new) (ap (λ (m : ℕ). definition_at e.slots m after) (eqb-true fresh n q) ∙ w)))
      (λ q. old (definition_view e.slots e.controls n e.nodes
      ∙ fewer_definition e.slots n d (within_fewer a.within) s.tree.distinct (grown_definition e.slots n d x a.grown q (within_apart a.within s.tree.distinct) w)))
    where
      go : (fresh : ℕ) (b : Bool) → eqb fresh n ≡ b → (eqb fresh n ≡ true → meaning_in bytes e ≡ some d) → (eqb fresh n ≡ false → before ≡ some d) → pick b (meaning_in bytes e) before ≡ some d
      go fresh true q new same = new q
      go fresh false q new same = same q
  tree_made (tree.NewGroup number action target) before h old v =
      let a = comes sizes e s action target h.place (new_group number) refl in
      let after = add_by action (new_group number) (meant target e) e.nodes in
      old (definition_view e.slots e.controls n e.nodes
      ∙ fewer_definition e.slots n d (within_fewer a.within) s.tree.distinct
      (group_definition e.slots n d (new_group number) a.grown refl (within_apart a.within s.tree.distinct) (sym (definition_view e.slots e.controls n after) ∙ v)))
  tree_made (tree.Free a) before h old v = old (was (cut (meant a e) e.nodes) (within_fewer (cut_within (meant a e) e.nodes)) v)
  tree_made (tree.FreeAll g) before h old v = old (was (cut_below (meant g e) e.nodes) (within_fewer (cut_below_within (meant g e) e.nodes)) v)
  tree_made (tree.DeepFree g) before h old v = old (was (deep_free (meant g e) e.nodes) (within_fewer (deep_free_within (meant g e) e.nodes)) v)
  tree_made (tree.Before a b) before h old v =
      old (was (move_before (meant a e) (meant b e) e.nodes) (within_fewer (same_within (move_before_same (meant a e) (meant b e) e.nodes (place_stays h)))) v)
  tree_made (tree.After a b) before h old v =
      old (was (move_after (meant a e) (meant b e) e.nodes) (within_fewer (same_within (move_after_same (meant a e) (meant b e) e.nodes (place_stays h)))) v)
  tree_made (tree.Head g a) before h old v =
      old (was (move_head (meant a e) (meant g e) e.nodes) (within_fewer (same_within (move_head_same (meant a e) (meant g e) e.nodes (place_stays h)))) v)
  tree_made (tree.Tail g a) before h old v =
      old (was (move_tail (meant a e) (meant g e) e.nodes) (within_fewer (same_within (move_tail_same (meant a e) (meant g e) e.nodes (place_stays h)))) v)
  tree_made (tree.Run a flag) before h old v = old (was (set_run (meant a e) flag e.nodes) (run_fewer (meant a e) flag e.nodes) v)
