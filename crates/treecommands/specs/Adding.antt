-- Where a new node goes: its target, and room for it.
use Rattle.std.specs.Prelude.{ℕ, ◌+◌, ◌*◌, ◌≤◌, ◌<◌, Bool, false, not, ◌≡◌, refl, List, length, eqb}
use Rattle.std.proofs.Math.Path.{sym, ap}
use Rattle.std.proofs.Common.{◌∙◌, arith, leb-false}
use Rattle.std.proofs.Math.Dec.{leb}
use Rattle.nodes.specs.Table.{width}
use Rattle.nodes.specs.TableLaws.{rows-length}
use Rattle.nodes.specs.Place.{is_group}
use Rattle.nodes.specs.Formed.{most_nodes}
use Rattle.values.specs.declared.NodeArgument.{NodeArgument}
use Rattle.model.specs.declared.TreeCommand.{TreeCommand}
use Rattle.model.specs.declared.Command.TheVariants as command
use Rattle.model.specs.Answers.{Done}
use Rattle.model.specs.Layout.{nodes_words, count_in, record_in, node_words}
use Rattle.model.specs.Engine.{decode}
use Rattle.model.specs.Checks.{bad_target, full}
use Rattle.model.specs.Effects.{tree_effect, effect}
use Rattle.model.specs.After.{words_after}
use Rattle.model.specs.Apply.{answer_in, is_accepted}
use Rattle.state.specs.Accepted.{accepted}
use Rattle.state.specs.Known.{Known, known}
use Rattle.preservation.specs.TreeKept.{tree_kept}
use Rattle.tree.specs.declared.action.Action.{Action}
use Rattle.tree.specs.declared.action.Action.TheVariants.{Put, Replace}
use Rattle.tree.specs.declared.action.Position.TheVariants.{Head, Tail, Before, After}
use Rattle.tree.specs.Action.{number_of}
use Rattle.tree.specs.Add.{grows, Room}
use Rattle.tree.specs.Shallow.{addable}
use Rattle.treecommands.specs.Ready.{Ready, words_long}
use Rattle.names.specs.Judged.{NodeFound}
use Rattle.treecommands.specs.Finding.{root_there, group-there}

-- 18 and 20 by the target's place and the count of nodes
abbrev pub bad_at : Action → List ℕ → ℕ → Bool
bad_at (Put Head) ws at = not (is_group (record_in ws at))
bad_at (Put Tail) ws at = not (is_group (record_in ws at))
bad_at (Put Before) ws at = eqb at 0
bad_at (Put After) ws at = eqb at 0
bad_at Replace ws at = eqb at 0

abbrev pub full_at : Action → ℕ → Bool
full_at (Put p) count = leb most_nodes count
full_at Replace count = false

module _ (target : NodeArgument) (ws : List ℕ) (k : Ready ws) (at : ℕ) (f : NodeFound target ws at) (bs : List ℕ) where
  pub bad-target : (action : Action) → bad_target (number_of action) target (decode ws bs) ≡ bad_at action ws at
  bad-target (Put Head) = group-there target ws k at f bs
  bad-target (Put Tail) = group-there target ws k at f bs
  bad-target (Put Before) = root_there target ws k at f bs
  bad-target (Put After) = root_there target ws k at f bs
  bad-target Replace = root_there target ws k at f bs

-- the count of nodes, by the words
module _ (ws : List ℕ) (count : ℕ) (same : count ≡ count_in ws) (bs : List ℕ) where
  many_there : leb most_nodes (length (decode ws bs).nodes) ≡ leb most_nodes count
  unfolding decode
  many_there = ap (λ (n : ℕ). leb most_nodes n) (rows-length (count_in ws) (node_words ws) ∙ sym same)

  pub is_full : (action : Action) → full (number_of action) (decode ws bs) ≡ full_at action count
  is_full (Put Head) = many_there
  is_full (Put Tail) = many_there
  is_full (Put Before) = many_there
  is_full (Put After) = many_there
  is_full Replace = refl

pub room : (action : Action) (ws : List ℕ) → Ready ws → (at : ℕ) → at < count_in ws → full_at action (count_in ws) ≡ false → Room (node_words ws) (count_in ws) action at
room action ws k at live h = addable (count_in ws) (node_words ws) k.tree.root action at (rw (words_long ws k.size) (enough action h)) k.few live
  where
    enough : (a : Action) → full_at a (count_in ws) ≡ false → width * count_in ws + grows a ≤ nodes_words
    enough (Put p) e = omega (arith, leb-false most_nodes (count_in ws) e)
    enough Replace e = omega (arith, k.few)

-- after an accepted command there are at most 256 nodes
pub after_few : (c : TreeCommand) (bytes ws bs : List ℕ) → Known ws bs → answer_in (command.Tree c) bytes (decode ws bs) 0 ≡ Done → length (tree_effect c bytes (decode ws bs)).nodes ≤ most_nodes
unfolding words_after effect
after_few c bytes ws bs k a = (known (words_after (command.Tree c) bytes ws bs) bs (tree_kept c bytes ws bs k.whole (accepted bytes (decode ws bs) (command.Tree c) 0 (ap is_accepted a)))).few
