-- /n_run and /n_free.
use Rattle.std.specs.Prelude.{ℕ, ◌+◌, ◌-◌, ◌≤◌, ◌<◌, Bool, true, false, ◌≡◌, refl, List, [], ◌∷◌, length, eqb}
use Rattle.std.proofs.Common.{ap, ◌∙◌, arith}
use borrow.Author.Tests.{lt-ltb, le-ltb, eq-eqb, ne_eqb}
use Rattle.words.specs.Choice.{pick}
use Rattle.words.specs.Parts.{put}
use Rattle.refusals.specs.declared.Refusal.{Refusal}
use Rattle.refusals.specs.declared.Refusal.TheVariants.{BadFlag, WrongKind}
use Rattle.nodes.specs.declared.Node.{Node}
use Rattle.nodes.specs.Table.{rows, fill, numbers}
use Rattle.nodes.specs.TableLaws.{rows-length}
use Rattle.nodes.specs.Edit.{with_run, edit_rows, edit_at, free_here, set_run_here, cut, set_run}
use Rattle.nodes.specs.Formed.{most_nodes}
use Rattle.treerefinement.specs.Tally.{cut_within}
use Rattle.treerefinement.specs.Keep.{set_run-length, set_run-lives}
use Rattle.values.specs.declared.NodeArgument.{NodeArgument}
use Rattle.model.specs.declared.TreeCommand.TheVariants as tree
use Rattle.model.specs.declared.Command.TheVariants as command
use Rattle.model.specs.Answers.{Done, Refused}
use Rattle.reindex.specs.declared.edit.Edit.TheVariants as edit
use Rattle.model.specs.Layout.{nodes_place, nodes_words, count_in, latest_in, nodes_in, record_in, node_words}
use Rattle.model.specs.Engine.{decode}
use Rattle.model.specs.Checks.{first_of}
use Rattle.model.specs.Effects.{effect}
use Rattle.model.specs.After.{words_after}
use Rattle.model.specs.Apply.{answer_in}
use Rattle.state.specs.Does.{step_refused, step_done}
use Rattle.tree.specs.Sizes.{Leaves}
use Rattle.tree.specs.Words.{run_leaves}
use Rattle.names.specs.Judged.{meant_in, NodeFound, NodeRefused}
use Rattle.treecommands.specs.Ready.{Ready}
use Rattle.treecommands.specs.Finding.{root_there}
use Rattle.treecommands.specs.Edits.{cut_does, cut_one}
use Rattle.treecommands.specs.Settle.{Sorted, Changed, renewed}
use Rattle.treecommands.specs.Staying.{Stays, Freed}
use Rattle.treecommands.specs.Steps.{Steps, left_few, edited_ready, edited_stays, edited_freed, edited_in_place, edited_left}

-- a run flag changes no number
set_run_numbers : (n flag : ℕ) (t : List Node) → numbers (set_run n flag t) ≡ numbers t
unfolding numbers edit_rows
set_run_numbers n flag [] = refl
set_run_numbers n flag (r ∷ l) = go (set_run_numbers n flag l) (eqb r.number n)
  where
    go : numbers (set_run n flag l) ≡ numbers l → (b : Bool) → numbers (pick b (with_run flag r ∷ l) (r ∷ set_run n flag l)) ≡ r.number ∷ numbers l
    go ih true = refl
    go ih false = ap (λ (ks : List ℕ). r.number ∷ ks) ih

-- /n_run
module _ (n : NodeArgument) (flag : ℕ) (ws : List ℕ) where
  pub run_flag : 1 < flag → Steps (tree.Run n flag) ws (Refused BadFlag) ws
  unfolding answer_in first_of
  run_flag h bytes bs = step_refused (command.Tree (tree.Run n flag)) bytes ws bs BadFlag (rw (lt-ltb 1 flag h))

  module _ (low : flag ≤ 1) where
    pub run_unknown : (r : Refusal) → NodeRefused n ws r → Steps (tree.Run n flag) ws (Refused r) ws
    unfolding answer_in first_of
    run_unknown r u bytes bs = step_refused (command.Tree (tree.Run n flag)) bytes ws bs r (rw (le-ltb 1 flag low, u.fires bs) (u.answer bs))

    module _ (k : Ready ws) (count : ℕ) (same : count ≡ count_in ws) (at : ℕ) (run_at : NodeFound n ws at) (us : List ℕ)
        (does : us ≡ fill (node_words ws) (edit_at at (set_run_here flag) (rows count (node_words ws)))) where
      run_live : at < count
      run_live = rw same run_at.live

      run_few : length (set_run (meant_in n ws) flag (nodes_in ws)) ≤ most_nodes
      run_few = omega (arith, set_run-length (meant_in n ws) flag (nodes_in ws), rows-length (count_in ws) (node_words ws), k.few)

      -- every node is where it was
      pub run_sorted : Sorted count (put nodes_place nodes_words us ws) × Stays count (put nodes_place nodes_words us ws)
      run_sorted =
          let left = run_leaves (node_words ws) count at flag run_live us does in (
            edited_in_place n ws k count same at run_at (set_run_here flag) us count left (set_run-length (meant_in n ws) flag (nodes_in ws)) (set_run_numbers (meant_in n ws) flag (nodes_in ws)),
            edited_stays n ws k count same at run_at (set_run_here flag) us count left run_few (λ e. set_run-lives (meant_in n ws) flag (nodes_in ws) (latest_in ws) ∙ e),
          )

      pub run_done : (out : List ℕ) → out ≡ renewed count (put nodes_place nodes_words us ws) → Steps (tree.Run n flag) ws Done out
      unfolding answer_in first_of decode words_after effect
      run_done out o bytes bs =
          step_done (command.Tree (tree.Run n flag)) bytes ws bs out (rw (le-ltb 1 flag low, run_at.passes bs)) (edited_left n ws k count same at run_at (set_run_here flag) us count (run_leaves (node_words ws) count at flag run_live us does) run_few out o bs)

-- /n_free
module _ (n : NodeArgument) (ws : List ℕ) where
  pub free-unknown : (r : Refusal) → NodeRefused n ws r → Steps (tree.Free n) ws (Refused r) ws
  unfolding answer_in first_of
  free-unknown r u bytes bs = step_refused (command.Tree (tree.Free n)) bytes ws bs r (rw (u.fires bs) (u.answer bs))

  module _ (k : Ready ws) (at : ℕ) (free-at : NodeFound n ws at) where
    pub free-root : at ≡ 0 → Steps (tree.Free n) ws (Refused WrongKind) ws
    unfolding answer_in first_of
    free-root z bytes bs = step_refused (command.Tree (tree.Free n)) bytes ws bs WrongKind (rw (free-at.passes bs, root_there n ws k at free-at bs, eq-eqb at 0 z))

  module _ (k : Ready ws) (count : ℕ) (same : count ≡ count_in ws) (at : ℕ) (free-at : NodeFound n ws at) where
    live : at < count
    live = rw same free-at.live

    module _ (us : List ℕ) (many : ℕ) (does : Leaves (node_words ws) (edit_at at free_here (rows count (node_words ws))) us many) where
      free_few : length (cut (meant_in n ws) (nodes_in ws)) ≤ most_nodes
      free_few = left_few ws (cut (meant_in n ws) (nodes_in ws)) k (cut_within (meant_in n ws) (nodes_in ws))

      pub free_ready : Changed (edit.Cut at (at + (count - many))) many (put nodes_place nodes_words us ws)
      free_ready = edited_ready n ws k count same at free-at free_here us many does free_few (edit.Cut at (at + (count - many))) (cut_does count (node_words ws) at live many does.size)

      -- one node alone: the latest synth is told by the number that stood at its place
      pub free_one : (gone : ℕ) → gone ≡ (record_in ws at).number → at + (count - many) ≡ at + 1 → Freed (edit.Cut at (at + (count - many))) many gone (put nodes_place nodes_words us ws)
      free_one gone is one =
          rw is
          (edited_freed n ws k count same at free-at free_here us many does free_few (edit.Cut at (at + (count - many))) (cut_does count (node_words ws) at live many does.size)
          (record_in ws at) (cut_one count (node_words ws) at live many does.size one))

      pub free_done : (out : List ℕ) → (at ≡ 0 → ⊥) → out ≡ renewed many (put nodes_place nodes_words us ws) → Steps (tree.Free n) ws Done out
      unfolding answer_in first_of decode words_after effect
      free_done out z o bytes bs =
          step_done (command.Tree (tree.Free n)) bytes ws bs out (rw (free-at.passes bs, root_there n ws k at free-at bs, ne_eqb at 0 z)) (edited_left n ws k count same at free-at free_here us many does free_few out o bs)
