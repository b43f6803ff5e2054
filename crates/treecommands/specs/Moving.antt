-- A move accepted: the words after it.
use Rattle.std.specs.Prelude.{ℕ, ◌≤◌, true, ◌≡◌, refl, List, length}
use Rattle.std.proofs.Common.{sym, ap, subst, ◌∙◌, arith}
use Rattle.words.specs.Parts.{put}
use Rattle.refusals.specs.declared.Refusal.{Refusal}
use Rattle.nodes.specs.declared.Node.{Node}
use Rattle.nodes.specs.Table.{fill}
use Rattle.nodes.specs.TableLaws.{rows-length}
use Rattle.nodes.specs.Place.{lives}
use Rattle.nodes.specs.PlaceLaws.{found}
use Rattle.nodes.specs.Sizes.{end_at}
use Rattle.nodes.specs.Edit.{run_of, edit_rows, cut}
use Rattle.nodes.specs.Formed.{most_nodes}
use Rattle.treerefinement.specs.Keep.{same_lives}
use Rattle.treerefinement.specs.Tally.{Same, tally-length, move_head_same, move_tail_same, move_before_same, move_after_same}
use Rattle.reindex.specs.declared.edit.Edit.{Edit}
use Rattle.reindex.specs.Edits as edits
use Rattle.values.specs.declared.NodeArgument.{NodeArgument}
use Rattle.model.specs.declared.TreeCommand.{TreeCommand}
use Rattle.model.specs.declared.TreeCommand.TheVariants as tree
use Rattle.model.specs.declared.Command.TheVariants as command
use Rattle.model.specs.Answers.{Done, Refused}
use Rattle.model.specs.Layout.{nodes_place, nodes_words, count_in, latest_in, nodes_in, node_words}
use Rattle.model.specs.Engine.{Engine, decode}
use Rattle.model.specs.Effects.{with_nodes, effect}
use Rattle.model.specs.After.{put_tree, words_after}
use Rattle.model.specs.Checks.{Check, first_of, beside_checks, into_checks}
use Rattle.model.specs.Apply.{answer_in}
use Rattle.state.specs.Does.{step_refused, step_done}
use Rattle.preservation.specs.TreeSteps.{still_lives}
use Rattle.tree.specs.declared.action.Position.{Position}
use Rattle.tree.specs.declared.action.Position.TheVariants.{Head, Tail, Before, After}
use Rattle.tree.specs.declared.add.Place.{Place}
use Rattle.tree.specs.Sizes.{Leaves}
use Rattle.tree.specs.Action.{put_here}
use Rattle.tree.specs.Add.{place_by}
use Rattle.tree.specs.MoveRun.{moved_to}
use Rattle.tree.specs.Ends.{move_place}
use Rattle.tree.specs.Moved.{move_first}
use Rattle.treecommands.specs.Ready.{Ready}
use Rattle.names.specs.Judged.{meant_in}
use Rattle.treecommands.specs.Edits.{move_edit, move_does}
use Rattle.treecommands.specs.Settle.{renewed, changed_left, renewed_left}
use Rattle.treecommands.specs.Staying.{Staying, stays_left}
use Rattle.treecommands.specs.Steps.{Steps}
use Rattle.treecommands.specs.Sighting.{Answers, Clear}

same_length : {after before : List Node} → Same after before → length after ≡ length before
same_length {after} {before} s = sym (tally-length after) ∙ s.sum (λ r. true) (λ d r. refl) ∙ tally-length before

-- a node moved to a position by another, as the plain edits have it
abbrev moved_by : Position → ℕ → ℕ → List Node → List Node
moved_by p m n t = edit_rows n (put_here p (run_of m t)) (cut m t)

-- the command that moves a node to a position by another, and its checks
abbrev pub move_command : Position → NodeArgument → NodeArgument → TreeCommand
move_command Head a b = tree.Head b a
move_command Tail a b = tree.Tail b a
move_command Before a b = tree.Before a b
move_command After a b = tree.After a b

abbrev pub move_checks : Position → NodeArgument → NodeArgument → Engine → List Check
move_checks Head a b = into_checks b a
move_checks Tail a b = into_checks b a
move_checks Before a b = beside_checks a b
move_checks After a b = beside_checks a b

-- a move keeps every node
moved_same : (p : Position) (m n : ℕ) (t : List Node) → lives n (cut m t) ≡ true → Same (moved_by p m n t) t
moved_same Head m n t = move_head_same m n t
moved_same Tail m n t = move_tail_same m n t
moved_same Before m n t = move_before_same m n t
moved_same After m n t = move_after_same m n t

module _ (p : Position) (a b : NodeArgument) (ws : List ℕ) where
  abbrev t : List Node
  t = moved_by p (meant_in a ws) (meant_in b ws) (nodes_in ws)

  asks : (q : Position) (bytes bs : List ℕ) → answer_in (command.Tree (move_command q a b)) bytes (decode ws bs) 0 ≡ first_of (move_checks q a b (decode ws bs)) Done
  unfolding answer_in
  asks Head bytes bs = refl
  asks Tail bytes bs = refl
  asks Before bytes bs = refl
  asks After bytes bs = refl

  leaves : (q : Position) (bytes bs : List ℕ)
      → words_after (command.Tree (move_command q a b)) bytes ws bs ≡ put_tree (with_nodes (moved_by q (meant_in a ws) (meant_in b ws) (nodes_in ws)) (decode ws bs)) ws
  unfolding decode words_after effect
  leaves Head bytes bs = refl
  leaves Tail bytes bs = refl
  leaves Before bytes bs = refl
  leaves After bytes bs = refl

  pub move_refused : (r : Refusal) → Answers (move_checks p a b) ws r → Steps (move_command p a b) ws (Refused r) ws
  move_refused r h bytes bs = step_refused (command.Tree (move_command p a b)) bytes ws bs r (asks p bytes bs ∙ h bs)

  -- both nodes found, and the one moved to the place at the position by the other
  module _ (k : Ready ws) (i j : ℕ) (c : Clear (move_checks p a b) a b ws i j) (count : ℕ) (same : count ≡ count_in ws)
      (to : Place) (there : to ≡ place_by p count (node_words ws) j) (us : List ℕ) (moves : us ≡ fill (node_words ws) (moved_to count (node_words ws) i to)) where
    all : Same t (nodes_in ws)
    all =
        moved_same p (meant_in a ws) (meant_in b ws) (nodes_in ws)
        (still_lives (meant_in a ws) (meant_in b ws) (nodes_in ws)
        (found (count_in ws) (node_words ws) (meant_in b ws) (omega (arith, c.second.here, c.second.live))) c.apart)

    size : length t ≡ count_in ws
    size = same_length all ∙ rows-length (count_in ws) (node_words ws)

    few : length t ≤ most_nodes
    few = omega (arith, size, k.few)

    table : moved_to (count_in ws) (node_words ws) i (place_by p (count_in ws) (node_words ws) j) ≡ t
    table = move_first (count_in ws) (node_words ws) (meant_in a ws) (meant_in b ws) i j c.first.here c.second.here c.first.live c.second.live c.moving.outside p

    left : Leaves (node_words ws) t us (count_in ws)
    left = record {
      words = rw (there, same) at moves ∙ ap (λ (l : List Node). fill (node_words ws) l) table;
      size = sym size;
    }

    pub move_ready : (e : ℕ) → e ≡ end_at count (node_words ws) i → (edit : Edit) → edit ≡ move_edit i e to.at → Staying edit count (put nodes_place nodes_words us ws)
    move_ready e end edit is =
        let changed = changed_left ws k t few (move_edit i (end_at (count_in ws) (node_words ws) i) (place_by p (count_in ws) (node_words ws) j).at)
        (subst (λ (l : List Node). edits.Does (move_edit i (end_at (count_in ws) (node_words ws) i) (place_by p (count_in ws) (node_words ws) j).at) (nodes_in ws) l) table
        (move_does (count_in ws) (node_words ws) i (place_by p (count_in ws) (node_words ws) j) (move_place (node_words ws) (count_in ws) i j c.moving p))) us (count_in ws) left in
        rw (is, end, there, same) (record { changed = changed; stays = stays_left ws k t few (λ e. same_lives (latest_in ws) all ∙ e) us (count_in ws) left })

    pub move_done : (out : List ℕ) → out ≡ renewed count (put nodes_place nodes_words us ws) → Steps (move_command p a b) ws Done out
    move_done out o bytes bs =
        step_done (command.Tree (move_command p a b)) bytes ws bs out (asks p bytes bs ∙ c.passed bs)
        (o ∙ ap (λ (n : ℕ). renewed n (put nodes_place nodes_words us ws)) same ∙ renewed_left ws k.size t few bs us (count_in ws) left ∙ sym (leaves p bytes bs))
