-- /g_freeAll and /g_deepFree.
use Rattle.std.specs.Prelude.{ℕ, ◌+◌, ◌-◌, ◌≤◌, ◌<◌, true, false, not, ◌≡◌, List, [], ◌∷◌, length, Result, Ok, Err}
use Rattle.words.specs.Parts.{put}
use Rattle.refusals.specs.declared.Refusal.{Refusal}
use Rattle.refusals.specs.declared.Refusal.TheVariants.{WrongKind}
use Rattle.nodes.specs.Table.{rows}
use Rattle.nodes.specs.Place.{is_group}
use Rattle.nodes.specs.Sizes.{end_at}
use Rattle.nodes.specs.Formed.{most_nodes}
use Rattle.nodes.specs.Edit.{edit_at, free_all_here, deep_free_here, cut_below, deep_free}
use Rattle.treerefinement.specs.Tally.{cut_below_within, deep_free_within}
use Rattle.reindex.specs.declared.edit.Edit.TheVariants as edit
use Rattle.reindex.specs.Kept.{PlacesTold}
use Rattle.values.specs.declared.NodeArgument.{NodeArgument}
use Rattle.model.specs.declared.TreeCommand.TheVariants as tree
use Rattle.model.specs.declared.Command.TheVariants as command
use Rattle.model.specs.Answers.{Answer}
use Rattle.model.specs.Answers.{Done, Refused}
use Rattle.model.specs.Layout.{nodes_place, nodes_words, count_in, nodes_in, record_in, node_words}
use Rattle.model.specs.Engine.{decode}
use Rattle.model.specs.Checks.{check, first_of, node_check, not_group}
use Rattle.model.specs.Effects.{effect}
use Rattle.model.specs.After.{words_after}
use Rattle.model.specs.Apply.{answer_in}
use Rattle.state.specs.Does.{step_refused, step_done}
use Rattle.tree.specs.Sizes.{Leaves}
use Rattle.names.specs.Judged.{meant_in, NodeFound, NodeRefused}
use Rattle.treecommands.specs.Ready.{Ready}
use Rattle.treecommands.specs.Finding.{group-there}
use Rattle.treecommands.specs.Edits.{cut_below_does, deep_sifts}
use Rattle.treecommands.specs.Settle.{Changed, Sifted, renewed}
use Rattle.treecommands.specs.Steps.{Steps, left_few, edited_ready, edited_sifts, edited_left}

-- the answer by their checks, which are the same
abbrev pub group_answer : NodeArgument → List ℕ → List ℕ → Answer
group_answer g ws bs = first_of (node_check g (decode ws bs) ∷ (check WrongKind (not_group g (decode ws bs)) ∷ [])) Done

-- the group that an argument means stands at a place, and no check fires; or the refusal that they answer
abbrev pub GroupFound : NodeArgument → List ℕ → Result ℕ Refusal → Type 0
GroupFound g ws (Ok at) = NodeFound g ws at × ((bs : List ℕ) → group_answer g ws bs ≡ Done)
GroupFound g ws (Err r) = (bs : List ℕ) → group_answer g ws bs ≡ Refused r

module _ (g : NodeArgument) (ws : List ℕ) where
  pub group_unknown : (r : Refusal) → NodeRefused g ws r → GroupFound g ws (Err r)
  unfolding first_of
  group_unknown r n bs = rw (n.fires bs) (n.answer bs)

  pub all_refused : (r : Refusal) → GroupFound g ws (Err r) → Steps (tree.FreeAll g) ws (Refused r) ws
  unfolding answer_in
  all_refused r n bytes bs = step_refused (command.Tree (tree.FreeAll g)) bytes ws bs r (n bs)

  pub deep_refused : (r : Refusal) → GroupFound g ws (Err r) → Steps (tree.DeepFree g) ws (Refused r) ws
  unfolding answer_in
  deep_refused r n bytes bs = step_refused (command.Tree (tree.DeepFree g)) bytes ws bs r (n bs)

  module _ (k : Ready ws) (at : ℕ) (found : NodeFound g ws at) where
    pub group_wrong : not (is_group (record_in ws at)) ≡ true → GroupFound g ws (Err WrongKind)
    unfolding first_of
    group_wrong b bs = rw (found.passes bs, group-there g ws k at found bs, b)

    pub group_right : not (is_group (record_in ws at)) ≡ false → GroupFound g ws (Ok at)
    unfolding first_of
    group_right b = (found, λ bs. rw (found.passes bs, group-there g ws k at found bs, b))

  module _ (k : Ready ws) (count : ℕ) (same : count ≡ count_in ws) (at : ℕ) (group_at : GroupFound g ws (Ok at)) where
    live : at < count
    live = rw same group_at.0.live

    all_few : length (cut_below (meant_in g ws) (nodes_in ws)) ≤ most_nodes
    all_few = left_few ws (cut_below (meant_in g ws) (nodes_in ws)) k (cut_below_within (meant_in g ws) (nodes_in ws))

    deep_few : length (deep_free (meant_in g ws) (nodes_in ws)) ≤ most_nodes
    deep_few = left_few ws (deep_free (meant_in g ws) (nodes_in ws)) k (deep_free_within (meant_in g ws) (nodes_in ws))

    module _ (us : List ℕ) (many : ℕ) (does : Leaves (node_words ws) (edit_at at free_all_here (rows count (node_words ws))) us many) where
      pub all_ready : Changed (edit.Cut (at + 1) (at + 1 + (count - many))) many (put nodes_place nodes_words us ws)
      all_ready = edited_ready g ws k count same at group_at.0 free_all_here us many does all_few (edit.Cut (at + 1) (at + 1 + (count - many))) (cut_below_does count (node_words ws) at live many does.size)

      pub all_done : (out : List ℕ) → out ≡ renewed many (put nodes_place nodes_words us ws) → Steps (tree.FreeAll g) ws Done out
      unfolding answer_in decode words_after effect
      all_done out o bytes bs =
          step_done (command.Tree (tree.FreeAll g)) bytes ws bs out (group_at.1 bs) (edited_left g ws k count same at group_at.0 free_all_here us many does all_few out o bs)

    module _ (us : List ℕ) (many : ℕ) (does : Leaves (node_words ws) (edit_at at deep_free_here (rows count (node_words ws))) us many) where
      pub deep_ready : (end : ℕ) → end ≡ end_at count (node_words ws) at → (ps : List ℕ) → PlacesTold (at + 1) end (rows count (node_words ws)) ps → Sifted ps many (put nodes_place nodes_words us ws)
      deep_ready end ends ps sieved = edited_sifts g ws k count same at group_at.0 deep_free_here us many does deep_few (at + 1) end (rw ends (deep_sifts count (node_words ws) at live)) ps sieved

      pub deep_done : (out : List ℕ) → out ≡ renewed many (put nodes_place nodes_words us ws) → Steps (tree.DeepFree g) ws Done out
      unfolding answer_in decode words_after effect
      deep_done out o bytes bs =
          step_done (command.Tree (tree.DeepFree g)) bytes ws bs out (group_at.1 bs) (edited_left g ws k count same at group_at.0 deep_free_here us many does deep_few out o bs)
