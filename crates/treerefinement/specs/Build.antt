-- The tree that a table of nodes lays out.
use Rattle.std.specs.Prelude.{ℕ, List, [], ◌∷◌, ltb}
use Rattle.words.specs.Choice.{pick}
use Rattle.nodes.specs.declared.Node.{Node}
use Rattle.nodes.specs.Forest.{Forest, none, node}

-- the first nodes of a list that are deeper than d, by the depths in their records, and what follows them
unfoldable pub tops_deeper : ℕ → Forest Node → Forest Node
tops_deeper d none = none
tops_deeper d (node x b a) = pick (ltb d x.depth) (node x b (tops_deeper d a)) none

unfoldable pub tops_past : ℕ → Forest Node → Forest Node
tops_past d none = none
tops_past d (node x b a) = pick (ltb d x.depth) (tops_past d a) (node x b a)

-- the tree of a table: a record has below it the deeper nodes that follow
unfoldable pub build : List Node → Forest Node
build [] = none
build (r ∷ l) = node r (tops_deeper r.depth (build l)) (tops_past r.depth (build l))
