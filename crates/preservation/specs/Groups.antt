-- A number that names a group is no synth's.
use Rattle.std.specs.Prelude.{ℕ, Bool, true, false, ◌≡◌, refl, List, [], ◌∷◌, eqb}
use Rattle.std.proofs.Common.{◌∙◌}
use Rattle.std.proofs.lemmas.Bool.{not-false}
use Rattle.words.specs.Choice.{pick}
use Rattle.nodes.specs.declared.Node.{Node}
use Rattle.nodes.specs.Place.{is_group}
use Rattle.nodes.specs.Formed.{apart, synth_lives}
use Rattle.treerefinement.specs.Latest.{group_named, group_nosynth}
use Rattle.values.specs.declared.NodeArgument.{NodeArgument}
use Rattle.model.specs.Engine.{Engine}
use Rattle.model.specs.Meaning.{meant, node_named, node}
use Rattle.model.specs.Checks.{not_group}

-- a node that is a group: no synth has its number
pub group-named : (n : ℕ) (t : List Node) → group_named n t ≡ is_group (node_named n t)
unfolding group_named node_named
group-named n [] = refl
group-named n (r ∷ l) = go (group-named n l) (eqb r.number n)
  where
    go : group_named n l ≡ is_group (node_named n l) → (b : Bool) → pick b (is_group r) (group_named n l) ≡ is_group (pick b r (node_named n l))
    go ih true = refl
    go ih false = ih

pub group_only : (a : NodeArgument) (e : Engine) → apart e.nodes ≡ true → not_group a e ≡ false → synth_lives (meant a e) e.nodes ≡ false
group_only a e d h = group_nosynth (meant a e) e.nodes d (group-named (meant a e) e.nodes ∙ not-false (is_group (node a e)) h)
