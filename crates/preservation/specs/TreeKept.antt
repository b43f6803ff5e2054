-- An accepted command of the tree kind leaves a well-formed state, which decodes to the command's effect.
use Rattle.std.specs.Prelude.{ℕ, ◌≤◌, true, ◌≡◌, refl, List, length}
use Rattle.std.proofs.Common.{ap, ◌∙◌, arith}
use Rattle.words.specs.PartsLaws.{region-length}
use Rattle.nodes.specs.Order.{order}
use Rattle.index.specs.Nodes.{afresh_indexed}
use Rattle.model.specs.declared.TreeCommand.{TreeCommand}
use Rattle.model.specs.declared.TreeCommand.TheVariants as tree
use Rattle.model.specs.declared.Command.TheVariants as command
use Rattle.model.specs.Layout.{slot_count, controls_place, controls_words, order_words, lengths_in, flags_in, buses_in, index_in}
use Rattle.model.specs.Engine.{Engine, decode}
use Rattle.model.specs.Effects.{tree_effect, effect}
use Rattle.model.specs.After.{put_tree, words_after}
use Rattle.model.specs.Formed.{formed, flags_formed, slots_formed, names_apart}
use Rattle.slots.specs.Slots.{slots_length}
use Rattle.state.specs.Known.{Known, known}
use Rattle.state.specs.Accepted.{TreeAccepted}
use Rattle.state.specs.Decoded.{tree_size, tree_lengths, tree_flags, tree_index, tree_decoded}
use Rattle.preservation.specs.Assemble.{Whole, tree-formed, whole_formed}
use Rattle.preservation.specs.Rows.{order-short}
use Rattle.preservation.specs.TreeSteps.{Sound, sound_step}

-- what the state check tells of the engine
pub known_sound : (ws bs : List ℕ) → Known ws bs → Sound (lengths_in ws) (decode ws bs)
unfolding decode
known_sound ws bs k = record {
  tree = k.tree;
  many = slots_length 0 slot_count (lengths_in ws) (flags_in ws) bs;
  words = region-length controls_place controls_words ws (omega (arith, k.size));
  slots = k.slots;
  controls = k.controls;
}

-- no command of the tree kind changes slots or buses, and each keeps the running order
unchanged : (c : TreeCommand) (bytes : List ℕ) (e : Engine)
    → ((tree_effect c bytes e).slots ≡ e.slots) × (((tree_effect c bytes e).buses ≡ e.buses) × ((tree_effect c bytes e).order ≡ order (tree_effect c bytes e).nodes))
unchanged (tree.NewSynth number action target) bytes e = (refl, (refl, refl))
unchanged (tree.NewGroup number action target) bytes e = (refl, (refl, refl))
unchanged (tree.Free n) bytes e = (refl, (refl, refl))
unchanged (tree.FreeAll g) bytes e = (refl, (refl, refl))
unchanged (tree.DeepFree g) bytes e = (refl, (refl, refl))
unchanged (tree.Before a b) bytes e = (refl, (refl, refl))
unchanged (tree.After a b) bytes e = (refl, (refl, refl))
unchanged (tree.Head g a) bytes e = (refl, (refl, refl))
unchanged (tree.Tail g a) bytes e = (refl, (refl, refl))
unchanged (tree.Run n flag) bytes e = (refl, (refl, refl))

-- an engine that keeps the rules, put in over a well-formed state
module _ (ws bs : List ℕ) (k : Known ws bs) (e : Engine) (s : Sound (lengths_in ws) e) (same : e.slots ≡ (decode ws bs).slots) (kept : e.buses ≡ buses_in ws) (ordered : e.order ≡ order e.nodes) where
  short : length e.order ≤ order_words
  short = rw ordered (omega (arith, order-short e.nodes s.tree.root, s.tree.few))

  pub put_decoded : decode (put_tree e ws) bs ≡ e
  put_decoded = tree_decoded e ws k.size s.tree.few s.words bs short same kept

  put_whole : Whole (put_tree e ws) bs e
  put_whole = record {
    size = tree_size e ws k.size s.tree.few s.words;
    arena_size = k.arena_size;
    decoded = put_decoded;
    few = s.tree.few;
    tree = tree-formed e.next e.latest e.nodes s.tree;
    index = afresh_indexed (index_in (put_tree e ws)) e.nodes s.tree.distinct (tree_index e ws k.size s.tree.few s.words);
    order_short = short;
    ordered = ordered;
    flags = ap flags_formed (tree_flags e ws k.size s.tree.few s.words) ∙ k.flags;
    slots = ap (λ (l : List ℕ). slots_formed 0 l e.slots e.nodes) (tree_lengths e ws k.size s.tree.few s.words) ∙ s.slots;
    names = ap names_apart same ∙ k.names;
    controls = s.controls;
  }

  pub put_formed : formed (put_tree e ws) bs ≡ true
  put_formed = whole_formed (put_tree e ws) bs e put_whole

module _ (c : TreeCommand) (bytes ws bs : List ℕ) (h : formed ws bs ≡ true) (a : TreeAccepted c bytes (decode ws bs)) where
  after : Sound (lengths_in ws) (tree_effect c bytes (decode ws bs))
  after = sound_step (lengths_in ws) (decode ws bs) (known_sound ws bs (known ws bs h)) c bytes a

  buses : (tree_effect c bytes (decode ws bs)).buses ≡ buses_in ws
  unfolding decode
  buses = (unchanged c bytes (decode ws bs)).1.0

  pub tree_kept : formed (words_after (command.Tree c) bytes ws bs) bs ≡ true
  unfolding words_after effect
  tree_kept =
      put_formed ws bs (known ws bs h) (tree_effect c bytes (decode ws bs)) after (unchanged c bytes (decode ws bs)).0 buses (unchanged c bytes (decode ws bs)).1.1

  pub tree-effect : decode (words_after (command.Tree c) bytes ws bs) bs ≡ effect (command.Tree c) bytes (decode ws bs)
  unfolding words_after effect
  tree-effect =
      put_decoded ws bs (known ws bs h) (tree_effect c bytes (decode ws bs)) after (unchanged c bytes (decode ws bs)).0 buses (unchanged c bytes (decode ws bs)).1.1
