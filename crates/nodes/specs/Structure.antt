-- Who stands where: parent, previous, next, head, tail and children of a node, in the table and in the plain tree.
-- "number, parent (-1 for the root), previous, next, 1 for a group or 0, and for a group its head and tail; -1 where none"
use Rattle.std.specs.Prelude.{ℕ, Bool, false, List, [], ◌∷◌, length, ltb, eqb}
use Rattle.words.specs.Choice.{pick, either}
use Rattle.nodes.specs.declared.Node.{Node}
use Rattle.nodes.specs.Edit.{drop_deeper, run_of}
use Rattle.nodes.specs.Forest.{Forest, none, node, has, below}
use Rattle.words.specs.Patterns.{minus_one}

-- -1: there is none
abbrev pub no_node : ℕ
no_node = minus_one

-- the first and the last of some numbers, or d
unfoldable pub first_or : ℕ → List ℕ → ℕ
first_or d [] = d
first_or d (n ∷ l) = n

unfoldable pub last_or : ℕ → List ℕ → ℕ
last_or d [] = d
last_or d (n ∷ l) = last_or n l

-- the numbers of the records at the depth d
unfoldable pub at_depth : ℕ → List Node → List ℕ
at_depth d [] = []
at_depth d (r ∷ l) = pick (eqb r.depth d) (r.number ∷ at_depth d l) (at_depth d l)

-- a number is in a list of numbers
unfoldable pub listed : ℕ → List ℕ → Bool
listed n [] = false
listed n (m ∷ ms) = either (eqb m n) (listed n ms)

-- the children of n: what stands at depth 1 in its run
abbrev pub children_of : ℕ → List Node → List ℕ
children_of n t = at_depth 1 (run_of n t)

abbrev pub child_count : ℕ → List Node → ℕ
child_count n t = length (children_of n t)

abbrev pub head_of : ℕ → List Node → ℕ
head_of n t = first_or no_node (children_of n t)

abbrev pub tail_of : ℕ → List Node → ℕ
tail_of n t = last_or no_node (children_of n t)

-- the depth of n
unfoldable pub depth_of : ℕ → List Node → ℕ
depth_of n [] = 0
depth_of n (r ∷ l) = pick (eqb r.number n) r.depth (depth_of n l)

-- before the record of n, whose depth is d: the last record less deep than d, or p
unfoldable pub last_above : ℕ → ℕ → ℕ → List Node → ℕ
last_above p d n [] = p
last_above p d n (r ∷ l) = pick (eqb r.number n) p (last_above (pick (ltb r.depth d) r.number p) d n l)

abbrev pub parent_of : ℕ → List Node → ℕ
parent_of n t = last_above no_node (depth_of n t) n t

-- before the record of n, whose depth is d: the last record at the depth d with none less deep behind it, or p
unfoldable pub last_beside : ℕ → ℕ → ℕ → List Node → ℕ
last_beside p d n [] = p
last_beside p d n (r ∷ l) = pick (eqb r.number n) p (last_beside (pick (ltb r.depth d) no_node (pick (eqb r.depth d) r.number p)) d n l)

abbrev pub previous_of : ℕ → List Node → ℕ
previous_of n t = last_beside no_node (depth_of n t) n t

-- the first record, where it is at the depth d
unfoldable pub first_beside : ℕ → List Node → ℕ
first_beside d [] = no_node
first_beside d (r ∷ l) = pick (eqb r.depth d) r.number no_node

-- what follows the run of n, where it is at the same depth
unfoldable pub next_of : ℕ → List Node → ℕ
next_of n [] = no_node
next_of n (r ∷ l) = pick (eqb r.number n) (first_beside r.depth (drop_deeper r.depth l)) (next_of n l)

-- the same in the plain tree
module _ {A : Type 0} (key : A → ℕ) where
  -- the numbers of the nodes of one list, not of those below them
  unfoldable pub tops : Forest A → List ℕ
  tops none = []
  tops (node x b a) = key x ∷ tops a

  abbrev pub children : ℕ → Forest A → List ℕ
  children n f = tops (below key n f)

  -- the first and the last of one list
  unfoldable pub first_top : Forest A → ℕ
  first_top none = no_node
  first_top (node x b a) = key x

  -- p, where the list is empty
  unfoldable pub last_top : ℕ → Forest A → ℕ
  last_top p none = p
  last_top p (node x b a) = last_top (key x) a

  -- of the node n in a list whose parent is p
  unfoldable pub parent_in : ℕ → ℕ → Forest A → ℕ
  parent_in p n none = no_node
  parent_in p n (node x b a) = pick (eqb (key x) n) p (pick (has key n b) (parent_in (key x) n b) (parent_in p n a))

  abbrev pub parent : ℕ → Forest A → ℕ
  parent n f = parent_in no_node n f

  -- of the node n in a list that p stands before
  unfoldable pub previous_in : ℕ → ℕ → Forest A → ℕ
  previous_in p n none = no_node
  previous_in p n (node x b a) = pick (eqb (key x) n) p (pick (has key n b) (previous_in no_node n b) (previous_in (key x) n a))

  abbrev pub previous : ℕ → Forest A → ℕ
  previous n f = previous_in no_node n f

  unfoldable pub next : ℕ → Forest A → ℕ
  next n none = no_node
  next n (node x b a) = pick (eqb (key x) n) (first_top a) (pick (has key n b) (next n b) (next n a))

  abbrev pub head : ℕ → Forest A → ℕ
  head n f = first_top (below key n f)

  abbrev pub tail : ℕ → Forest A → ℕ
  tail n f = last_top no_node (below key n f)
