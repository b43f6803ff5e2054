-- "The running order is the depth-first list of synths that are on with every ancestor on"
use Rattle.std.specs.Prelude.{ℕ, ◌+◌, Bool, List, [], ◌∷◌, ◌++◌, leb, eqb}
use Rattle.words.specs.Choice.{pick}
use Rattle.nodes.specs.declared.Node.{Node}
use Rattle.nodes.specs.Place.{is_group}
use Rattle.nodes.specs.Forest.{Forest, none, node}

abbrev pub is_on : Node → Bool
is_on r = eqb r.run 1

-- the order of what follows, where every ancestor of a record at most as deep as the limit is on:
-- below a node that is on the limit is one more than its depth, and below one that is off its depth
unfoldable pub order_from : ℕ → List Node → List ℕ
order_from limit [] = []
order_from limit (r ∷ l) =
    pick (leb r.depth limit)
    (pick (is_on r) (pick (is_group r) (order_from (r.depth + 1) l) (r.number ∷ order_from (r.depth + 1) l)) (order_from r.depth l))
    (order_from limit l)

abbrev pub order : List Node → List ℕ
order t = order_from 0 t

-- the same of the plain tree: nothing of a node that is off, nor of what is below it
module _ {A : Type 0} (key : A → ℕ) (group on : A → Bool) where
  unfoldable pub order_tree : Forest A → List ℕ
  order_tree none = []
  order_tree (node x b a) = pick (on x) (pick (group x) (order_tree b) (key x ∷ order_tree b)) [] ++ order_tree a
