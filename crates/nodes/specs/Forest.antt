-- The plain tree: a list of nodes, each with the nodes below it; the same edits as the table's; and the table that lays it out.
use Rattle.std.specs.Prelude.{ℕ, ◌+◌, Bool, true, false, List, [], ◌∷◌, ◌++◌, eqb}
use Rattle.words.specs.Choice.{pick}
use Rattle.nodes.specs.declared.Node.{Node}
use Rattle.nodes.specs.Edit.{level}

-- none; or a node, the nodes below it from head to tail, and the nodes after it in its group
pub data Forest (A : Type 0) : Type 0 where
  none : Forest A
  node : A → Forest A → Forest A → Forest A

-- the table: nodes in depth-first order, each with its depth
unfoldable pub flatten : ℕ → Forest Node → List Node
flatten d none = []
flatten d (node x b a) = level d x ∷ (flatten (d + 1) b ++ flatten d a)

unfoldable pub map_forest : {A B : Type 0} → (A → B) → Forest A → Forest B
map_forest g none = none
map_forest g (node x b a) = node (g x) (map_forest g b) (map_forest g a)

module _ {A : Type 0} where
  -- the nodes in depth-first order
  unfoldable pub items : Forest A → List A
  items none = []
  items (node x b a) = x ∷ (items b ++ items a)

  -- two forests side by side
  unfoldable pub beside : Forest A → Forest A → Forest A
  beside none g = g
  beside (node x b a) g = node x b (beside a g)

  -- nodes that fail the test go, with all below them
  unfoldable pub prune : (A → Bool) → Forest A → Forest A
  prune keep none = none
  prune keep (node x b a) = pick (keep x) (node x (prune keep b) (prune keep a)) (prune keep a)

  -- one node alone
  abbrev pub single : A → Forest A
  single x = node x none none

-- a node is found by its number, its key
module _ {A : Type 0} (key : A → ℕ) where
  unfoldable pub has : ℕ → Forest A → Bool
  has n none = false
  has n (node x b a) = pick (eqb (key x) n) true (pick (has n b) true (has n a))

  -- the node n with all below it, and the nodes below it
  unfoldable pub subtree : ℕ → Forest A → Forest A
  subtree n none = none
  subtree n (node x b a) = pick (eqb (key x) n) (node x b none) (pick (has n b) (subtree n b) (subtree n a))

  unfoldable pub below : ℕ → Forest A → Forest A
  below n none = none
  below n (node x b a) = pick (eqb (key x) n) b (pick (has n b) (below n b) (below n a))

  -- a is b or lies below it
  abbrev pub inside : ℕ → ℕ → Forest A → Bool
  inside a b f = has a (subtree b f)

  -- the forest with h in the place of the node n, of the nodes below it and of those after it
  unfoldable pub edit : ℕ → (A → Forest A → Forest A → Forest A) → Forest A → Forest A
  edit n h none = none
  edit n h (node x b a) = pick (eqb (key x) n) (h x b a) (pick (has n b) (node x (edit n h b) a) (node x b (edit n h a)))

  -- "`/n_free` frees a whole subtree; `/g_freeAll` all below a group"
  abbrev pub free : ℕ → Forest A → Forest A
  free n f = edit n (λ x b a. a) f

  abbrev pub free_below : ℕ → Forest A → Forest A
  free_below n f = edit n (λ x b a. node x none a) f

  -- "`/g_deepFree` the synths at any depth, groups staying"
  abbrev pub free_deep : (A → Bool) → ℕ → Forest A → Forest A
  free_deep group n f = edit n (λ x b a. node x (prune group b) a) f

  -- the node n changed by g, and nothing else
  abbrev pub change : ℕ → (A → A) → Forest A → Forest A
  change n g f = edit n (λ x b a. node (g x) b a) f

  -- "Add actions: 0 head, 1 tail of the target group; 2 before, 3 after the target; 4 replaces the target, whose subtree is freed."
  abbrev pub put_head : Forest A → ℕ → Forest A → Forest A
  put_head g n f = edit n (λ x b a. node x (beside g b) a) f

  abbrev pub put_tail : Forest A → ℕ → Forest A → Forest A
  put_tail g n f = edit n (λ x b a. node x (beside b g) a) f

  abbrev pub put_before : Forest A → ℕ → Forest A → Forest A
  put_before g n f = edit n (λ x b a. beside g (node x b a)) f

  abbrev pub put_after : Forest A → ℕ → Forest A → Forest A
  put_after g n f = edit n (λ x b a. node x b (beside g a)) f

  abbrev pub put_over : Forest A → ℕ → Forest A → Forest A
  put_over g n f = edit n (λ x b a. beside g a) f

  -- "A move takes A's subtree out and puts it in where told."
  abbrev pub place_before : ℕ → ℕ → Forest A → Forest A
  place_before m n f = put_before (subtree m f) n (free m f)

  abbrev pub place_after : ℕ → ℕ → Forest A → Forest A
  place_after m n f = put_after (subtree m f) n (free m f)

  abbrev pub place_head : ℕ → ℕ → Forest A → Forest A
  place_head m g f = put_head (subtree m f) g (free m f)

  abbrev pub place_tail : ℕ → ℕ → Forest A → Forest A
  place_tail m g f = put_tail (subtree m f) g (free m f)
