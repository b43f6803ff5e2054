-- /g_new: its checks, and the words after it.
use Rattle.std.specs.Prelude.{ℕ, ◌≤◌, ◌<◌, Bool, false, ◌≡◌, length, ltb, Result, Ok, Err}
use Rattle.std.proofs.Math.Bool.{true}
use Rattle.std.proofs.Math.Path.{ap}
use Rattle.std.proofs.Common.{◌∙◌, arith}
use mathlib.Core.List.{List, [], ◌∷◌}
use borrow.Author.Tests.{lt-ltb, le-ltb, le-leb, lt-leb}
use Rattle.words.specs.Choice.{either}
use Rattle.words.specs.Parts.{put}
use Rattle.refusals.specs.declared.Refusal.{Refusal}
use Rattle.refusals.specs.declared.Refusal.TheVariants.{BadFlag, BadNumber, NumberLive, WrongKind, NodesFull}
use Rattle.nodes.specs.declared.Node.{Node}
use Rattle.nodes.specs.Table.{rows}
use Rattle.nodes.specs.Place.{lives}
use Rattle.nodes.specs.Edit.{edit_rows, edit_at, add_by}
use Rattle.nodes.specs.PlaceLaws as nodes
use Rattle.nodes.specs.Formed.{most_nodes}
use Rattle.treerefinement.specs.Tally.{Grown, add_head_grown, add_tail_grown, add_before_grown, add_after_grown}
use Rattle.treerefinement.specs.Keep.{grown_lives}
use Rattle.values.specs.declared.NodeArgument.{NodeArgument}
use Rattle.model.specs.declared.TreeCommand.TheVariants as tree
use Rattle.model.specs.declared.Command.TheVariants as command
use Rattle.model.specs.Answers.{Done, Refused}
use Rattle.model.specs.Layout.{nodes_place, nodes_words, count_in, latest_in, nodes_in, node_words}
use Rattle.model.specs.Engine.{decode}
use Rattle.model.specs.Meaning.{first_negative}
use Rattle.model.specs.Checks.{first_of, tree_checks}
use Rattle.model.specs.Effects.{with_nodes, new_group, effect}
use Rattle.model.specs.After.{put_tree, words_after}
use Rattle.model.specs.Apply.{answer_in, is_accepted}
use Rattle.state.specs.Accepted.{accepted}
use Rattle.state.specs.Does.{step_refused, step_done}
use Rattle.tree.specs.declared.action.Position.{Position}
use Rattle.tree.specs.declared.action.Position.TheVariants.{Head, Tail, Before, After}
use Rattle.tree.specs.declared.action.Action.{Action}
use Rattle.tree.specs.declared.action.Action.TheVariants.{Put}
use Rattle.tree.specs.Sizes.{Leaves}
use Rattle.tree.specs.Action.{number_of, put_here, add_here, number_most, add_number}
use Rattle.tree.specs.declared.add.Gap.{Gap}
use Rattle.tree.specs.Add.{Room}
use Rattle.tree.specs.Gaps.{gap_by, in_gap, gap_leaves}
use Rattle.reindex.specs.declared.edit.Edit.TheVariants as edit
use Rattle.names.specs.Judged.{meant_in, NodeFound, NodeRefused}
use Rattle.treecommands.specs.Ready.{Ready}
use Rattle.treecommands.specs.Edits.{edit_by, add_does}
use Rattle.treecommands.specs.Settle.{Changed, renewed}
use Rattle.treecommands.specs.Steps.{Steps, edited_ready, edited_stays, edited_left}
use Rattle.treecommands.specs.Staying.{Added}
use Rattle.treecommands.specs.Adding.{bad_at, full_at, bad-target, is_full, room, after_few}

-- no check fires, and the target stands at its place, with room
pub record GroupGround (number : ℕ) (action : Action) (target : NodeArgument) (ws : List ℕ) (at : ℕ) : Type 0 where
  pub passed : (bytes bs : List ℕ) → first_of (tree_checks (tree.NewGroup number (number_of action) target) bytes (decode ws bs)) Done ≡ Done
  pub spot : NodeFound target ws at
  pub room : Room (node_words ws) (count_in ws) action at

abbrev pub GroupPlaced : ℕ → Action → NodeArgument → List ℕ → Result ℕ Refusal → Type 0
GroupPlaced number action target ws (Ok at) = GroupGround number action target ws at
GroupPlaced number action target ws (Err r) = (bytes bs : List ℕ) → first_of (tree_checks (tree.NewGroup number (number_of action) target) bytes (decode ws bs)) Done ≡ Refused r

-- its checks, one after the other
module _ (number : ℕ) (action : Action) (target : NodeArgument) (ws : List ℕ) where
  abbrev pub Answers : Refusal → Type 0
  Answers r = (bytes bs : List ℕ) → first_of (tree_checks (tree.NewGroup number (number_of action) target) bytes (decode ws bs)) Done ≡ Refused r

  low : ltb 4 (number_of action) ≡ false
  low = le-ltb 4 (number_of action) (number_most action)

  pub group_negative : first_negative ≤ number → Answers BadNumber
  unfolding first_of
  group_negative h bytes bs = rw (low, le-leb first_negative number h)

  module _ (positive : number < first_negative) where
    pub group_live : lives number (nodes_in ws) ≡ true → Answers NumberLive
    unfolding first_of decode
    group_live here bytes bs = rw (low, lt-leb first_negative number positive, here)

    module _ (fresh : lives number (nodes_in ws) ≡ false) where
      pub group_unknown : (r : Refusal) → NodeRefused target ws r → Answers r
      unfolding first_of decode
      group_unknown r n bytes bs = rw (low, lt-leb first_negative number positive, fresh, n.fires bs) (n.answer bs)

      module _ (k : Ready ws) (at : ℕ) (f : NodeFound target ws at) where
        pub group_kind : bad_at action ws at ≡ true → Answers WrongKind
        unfolding first_of decode
        group_kind h bytes bs =
            rw (low, lt-leb first_negative number positive, fresh, f.passes bs, bad-target target ws k at f bs action ∙ h)

        module _ (kind : bad_at action ws at ≡ false) (count : ℕ) (same : count ≡ count_in ws) where
          pub group_full : full_at action count ≡ true → Answers NodesFull
          unfolding first_of decode
          group_full h bytes bs =
              rw (low, lt-leb first_negative number positive, fresh, f.passes bs, bad-target target ws k at f bs action ∙ kind, is_full ws count same bs action ∙ h)

          group_passes : full_at action count ≡ false → (bytes bs : List ℕ) → first_of (tree_checks (tree.NewGroup number (number_of action) target) bytes (decode ws bs)) Done ≡ Done
          unfolding first_of decode
          group_passes h bytes bs =
              rw (low, lt-leb first_negative number positive, fresh, f.passes bs, bad-target target ws k at f bs action ∙ kind, is_full ws count same bs action ∙ h)

          pub group_ground : full_at action count ≡ false → GroupGround number action target ws at
          group_ground h = record { passed = group_passes h; spot = f; room = room action ws k at f.live (rw same at h) }

-- a number that asks for no add action
pub group_unasked : (number action : ℕ) (target : NodeArgument) (ws : List ℕ) → 4 < action → Steps (tree.NewGroup number action target) ws (Refused BadFlag) ws
unfolding answer_in first_of
group_unasked number action target ws h bytes bs = step_refused (command.Tree (tree.NewGroup number action target)) bytes ws bs BadFlag (rw (lt-ltb 4 action h))

-- records put in at a position: none is taken out
put_grown : (p : Position) (xs : List Node) (n : ℕ) (t : List Node) → lives n t ≡ true → Grown xs (edit_rows n (put_here p xs) t) t
put_grown Head xs n t h = add_head_grown xs n t h
put_grown Tail xs n t h = add_tail_grown xs n t h
put_grown Before xs n t h = add_before_grown xs n t h
put_grown After xs n t h = add_after_grown xs n t h

-- the words after it
module _ (number : ℕ) (action : Action) (target : NodeArgument) (ws : List ℕ) where
  pub group_refused : (r : Refusal) → Answers number action target ws r → Steps (tree.NewGroup number (number_of action) target) ws (Refused r) ws
  unfolding answer_in
  group_refused r h bytes bs = step_refused (command.Tree (tree.NewGroup number (number_of action) target)) bytes ws bs r (h bytes bs)

  module _ (k : Ready ws) (count : ℕ) (same : count ≡ count_in ws) (at : ℕ) (g : GroupGround number action target ws at) (gap : Gap) (opens : gap ≡ gap_by action count (node_words ws) at) (us : List ℕ) (many : ℕ)
      (fills : Leaves (node_words ws) (in_gap gap (new_group number) (rows count (node_words ws))) us many) where
    does : Leaves (node_words ws) (edit_at at (add_here action (new_group number ∷ [])) (rows count (node_words ws))) us many
    does = gap_leaves (node_words ws) count action at (rw same g.spot.live) gap opens (new_group number) us many fills

    added : edit_rows (meant_in target ws) (add_here action (new_group number ∷ [])) (nodes_in ws) ≡ add_by (number_of action) (new_group number) (meant_in target ws) (nodes_in ws)
    added = add_number action (new_group number) (meant_in target ws) (nodes_in ws)

    few : length (add_by (number_of action) (new_group number) (meant_in target ws) (nodes_in ws)) ≤ most_nodes
    unfolding answer_in decode
    few = after_few (tree.NewGroup number (number_of action) target) [] ws k.arena k.known (g.passed [] k.arena)

    free : lives number (rows count (node_words ws)) ≡ false
    unfolding answer_in decode
    free = rw same (accepted [] (decode ws k.arena) (command.Tree (tree.NewGroup number (number_of action) target)) 0 (ap is_accepted (g.passed [] k.arena))).free_number

    few_there : length (edit_rows (meant_in target ws) (add_here action (new_group number ∷ [])) (nodes_in ws)) ≤ most_nodes
    few_there = rw added few

    still : (p : Position) → action ≡ Put p → lives (latest_in ws) (nodes_in ws) ≡ true → lives (latest_in ws) (edit_rows (meant_in target ws) (add_here action (new_group number ∷ [])) (nodes_in ws)) ≡ true
    still p is h =
        let live = nodes.found (count_in ws) (node_words ws) (meant_in target ws) (omega (arith, g.spot.here, g.spot.live)) in
        rw is (grown_lives (latest_in ws) (put_grown p (new_group number ∷ []) (meant_in target ws) (nodes_in ws) live) ∙ ap (λ (b : Bool). either b (lives (latest_in ws) (new_group number ∷ []))) h)

    changed : Changed (edit.Put gap.at gap.end) many (put nodes_place nodes_words us ws)
    changed =
        rw opens
        (edited_ready target ws k count same at g.spot (add_here action (new_group number ∷ [])) us many does few_there (edit_by action count (node_words ws) at)
        (add_does count (node_words ws) at (rw same g.spot.live) action (new_group number) free))

    pub group_ready : Added action (edit.Put gap.at gap.end) many (put nodes_place nodes_words us ws)
    group_ready = record { changed = changed; stays = λ p is. edited_stays target ws k count same at g.spot (add_here action (new_group number ∷ [])) us many does few_there (still p is) }

    pub group_done : (out : List ℕ) → out ≡ renewed many (put nodes_place nodes_words us ws) → Steps (tree.NewGroup number (number_of action) target) ws Done out
    unfolding answer_in decode words_after effect
    group_done out o bytes bs =
        step_done (command.Tree (tree.NewGroup number (number_of action) target)) bytes ws bs out (g.passed bytes bs)
        (edited_left target ws k count same at g.spot (add_here action (new_group number ∷ [])) us many does few_there out o bs
        ∙ ap (λ (t : List Node). put_tree (with_nodes t (decode ws bs)) ws) added)
