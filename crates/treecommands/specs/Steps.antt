-- What each command does: its answer by the table, and the words after it. Most look neither at the arena nor at the bytes beside the command.
use Rattle.std.specs.Prelude.{ℕ, ◌≤◌, ◌<◌, true, ◌≡◌, List, [], ◌∷◌, length}
use Rattle.std.proofs.Common.{sym, ap, subst₂, ◌∙◌, arith}
use Rattle.words.specs.Parts.{put}
use Rattle.nodes.specs.declared.Node.{Node}
use Rattle.nodes.specs.Table.{rows, numbers}
use Rattle.nodes.specs.TableLaws.{rows-length}
use Rattle.nodes.specs.Place.{lives}
use Rattle.nodes.specs.Edit.{edit_rows, edit_at}
use Rattle.nodes.specs.Split.{edit_first}
use Rattle.nodes.specs.Formed.{most_nodes}
use Rattle.treerefinement.specs.Tally.{Within, Grown}
use Rattle.treerefinement.specs.Keep.{within_length}
use Rattle.values.specs.declared.NodeArgument.{NodeArgument}
use Rattle.model.specs.declared.TreeCommand.{TreeCommand}
use Rattle.model.specs.declared.Command.TheVariants as command
use Rattle.model.specs.Answers.{Answer}
use Rattle.reindex.specs.declared.edit.Edit.{Edit}
use Rattle.reindex.specs.Follow.{Carries, PlaceOfNode}
use Rattle.reindex.specs.Edits.{Does}
use Rattle.reindex.specs.Kept.{sift, place_in, PlacesTold}
use Rattle.model.specs.Layout.{nodes_place, nodes_words, count_in, latest_in, nodes_in, node_words}
use Rattle.model.specs.Engine.{decode}
use Rattle.model.specs.Effects.{with_nodes}
use Rattle.model.specs.After.{put_tree}
use Rattle.state.specs.Does.{WordsStep}
use Rattle.tree.specs.Sizes.{Leaves, leaves_first}
use Rattle.treecommands.specs.Ready.{Ready}
use Rattle.names.specs.Judged.{meant_in, NodeFound}
use Rattle.treecommands.specs.Staying.{Stays, Freed, stays_left, freed_left}
use Rattle.treecommands.specs.Settle.{Sorted, Changed, Sifted, renewed, changed_left, sifted_left, sorted_left, renewed_left}

abbrev pub Steps : TreeCommand → List ℕ → Answer → List ℕ → Type 0
Steps c ws a ws' = (bytes bs : List ℕ) → WordsStep (command.Tree c) bytes ws bs a ws'

-- an edit that leaves no node but those that there were
pub left_few : (ws : List ℕ) (t : List Node) → Ready ws → Within t (nodes_in ws) → length t ≤ most_nodes
left_few ws t k w = omega (arith, within_length w, k.few, rows-length (count_in ws) (node_words ws))

-- the node that an argument names, found at a place, and the node region edited there: what the rest asks, and what it leaves
module _ (a : NodeArgument) (ws : List ℕ) (k : Ready ws) (count : ℕ) (same : count ≡ count_in ws) (at : ℕ) (f : NodeFound a ws at)
    (H : Node → List Node → List Node) (us : List ℕ) (many : ℕ)
    (does : Leaves (node_words ws) (edit_at at H (rows count (node_words ws))) us many) where
  left : Leaves (node_words ws) (edit_rows (meant_in a ws) H (nodes_in ws)) us many
  left = leaves_first H (node_words ws) (nodes_in ws) us many at (rw same at does) (meant_in a ws) f.here

  edits : edit_at at H (rows count (node_words ws)) ≡ edit_rows (meant_in a ws) H (nodes_in ws)
  edits = ap (λ (n : ℕ). edit_at at H (rows n (node_words ws))) same ∙ edit_first (meant_in a ws) at H (nodes_in ws) f.here

  pub edited_ready : length (edit_rows (meant_in a ws) H (nodes_in ws)) ≤ most_nodes → (edit : Edit) → Does edit (rows count (node_words ws)) (edit_at at H (rows count (node_words ws)))
      → Changed edit many (put nodes_place nodes_words us ws)
  edited_ready few edit d = changed_left ws k (edit_rows (meant_in a ws) H (nodes_in ws)) few edit (subst₂ (λ (n : ℕ) (l : List Node). Does edit (rows n (node_words ws)) l) same edits d) us many left

  pub edited_sifts : length (edit_rows (meant_in a ws) H (nodes_in ws)) ≤ most_nodes → (from to : ℕ) → edit_at at H (rows count (node_words ws)) ≡ sift from to 0 (rows count (node_words ws))
      → (ps : List ℕ) → PlacesTold from to (rows count (node_words ws)) ps → Sifted ps many (put nodes_place nodes_words us ws)
  edited_sifts few from to sifts ps s =
      let there : sift from to 0 (rows count (node_words ws)) ≡ edit_rows (meant_in a ws) H (nodes_in ws) = sym sifts ∙ edits in
      sifted_left ws k (edit_rows (meant_in a ws) H (nodes_in ws)) few ps
      (subst₂ (λ (n : ℕ) (l : List Node). Carries (place_in ps) (rows n (node_words ws)) l) same there s.carries)
      (subst₂ (λ (n : ℕ) (l : List Node). (q : ℕ) → q < length l → PlaceOfNode (place_in ps) (rows n (node_words ws)) q) same there s.came) us many left

  pub edited_stays : length (edit_rows (meant_in a ws) H (nodes_in ws)) ≤ most_nodes → (lives (latest_in ws) (nodes_in ws) ≡ true → lives (latest_in ws) (edit_rows (meant_in a ws) H (nodes_in ws)) ≡ true)
      → Stays many (put nodes_place nodes_words us ws)
  edited_stays few still = stays_left ws k (edit_rows (meant_in a ws) H (nodes_in ws)) few still us many left

  pub edited_freed : length (edit_rows (meant_in a ws) H (nodes_in ws)) ≤ most_nodes → (edit : Edit) → Does edit (rows count (node_words ws)) (edit_at at H (rows count (node_words ws)))
      → (r : Node) → Grown (r ∷ []) (rows count (node_words ws)) (edit_at at H (rows count (node_words ws))) → Freed edit many r.number (put nodes_place nodes_words us ws)
  edited_freed few edit d r g = record {
    changed = edited_ready few edit d;
    without = freed_left ws k (edit_rows (meant_in a ws) H (nodes_in ws)) few r (subst₂ (λ (n : ℕ) (l : List Node). Grown (r ∷ []) (rows n (node_words ws)) l) same edits g) us many left;
  }

  pub edited_in_place : length (edit_rows (meant_in a ws) H (nodes_in ws)) ≡ length (nodes_in ws) → numbers (edit_rows (meant_in a ws) H (nodes_in ws)) ≡ numbers (nodes_in ws)
      → Sorted many (put nodes_place nodes_words us ws)
  edited_in_place size numbered = sorted_left ws k (edit_rows (meant_in a ws) H (nodes_in ws)) size numbered us many left

  pub edited_left : length (edit_rows (meant_in a ws) H (nodes_in ws)) ≤ most_nodes → (out : List ℕ) → out ≡ renewed many (put nodes_place nodes_words us ws) → (bs : List ℕ) → out ≡ put_tree (with_nodes (edit_rows (meant_in a ws) H (nodes_in ws)) (decode ws bs)) ws
  edited_left few out o bs = o ∙ renewed_left ws k.size (edit_rows (meant_in a ws) H (nodes_in ws)) few bs us many left
