-- The row for a new synth: the lowest that is free among the nodes that stay.
use Rattle.std.specs.Prelude.{ℕ, ◌≤◌, ◌<◌, ◌≡◌, refl, List, length}
use Rattle.nodes.specs.declared.Node.{Node}
use Rattle.nodes.specs.Place.{place}
use Rattle.nodes.specs.Edit.{edit_at, free_here}
use Rattle.nodes.specs.Split.{edit_first}
use Rattle.nodes.specs.Formed.{most_nodes}
use Rattle.model.specs.Layout.{nodes_words}
use Rattle.model.specs.Effects.{staying_nodes}
use Rattle.tree.specs.declared.action.Action.{Action}
use Rattle.tree.specs.declared.action.Action.TheVariants.{Put, Replace}
use Rattle.tree.specs.declared.action.Position.TheVariants.{Head, Tail, Before, After}
use Rattle.tree.specs.Action.{number_of}

-- a node region, with a place in its table
pub record Standing (us : List ℕ) (count at : ℕ) : Type 0 where
  pub size : length us ≡ nodes_words
  pub few : count ≤ most_nodes
  pub live : at < count

-- the nodes that stay when one is put in at a place by an add action: one that replaces frees the subtree there first
abbrev pub staying_at : Action → ℕ → List Node → List Node
staying_at (Put p) at t = t
staying_at Replace at t = edit_at at free_here t

pub staying_first : (action : Action) (n at : ℕ) (t : List Node) → at ≡ place n t → staying_at action at t ≡ staying_nodes (number_of action) n t
staying_first (Put Head) n at t here = refl
staying_first (Put Tail) n at t here = refl
staying_first (Put Before) n at t here = refl
staying_first (Put After) n at t here = refl
staying_first Replace n at t here = edit_first n at free_here t here
