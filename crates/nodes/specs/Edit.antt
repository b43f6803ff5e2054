-- Edits of the table: what each leaves in the place of a record and of all that follows it, and the same at the node with a number.
use Rattle.std.specs.Prelude.{ℕ, zero, suc, ◌+◌, ◌-◌, Bool, List, [], ◌∷◌, ◌++◌, ltb, eqb}
use Rattle.words.specs.Choice.{pick}
use Rattle.nodes.specs.declared.Node.{Node}
use Rattle.nodes.specs.Place.{is_group, lives}

-- a node at another depth, and with another run flag
abbrev pub level : ℕ → Node → Node
level d r = record { number = r.number; depth = d; run = r.run; slot = r.slot; row = r.row }

abbrev pub with_run : ℕ → Node → Node
with_run flag r = record { number = r.number; depth = r.depth; run = flag; slot = r.slot; row = r.row }

-- records k deeper, and records with k taken off their depths
unfoldable pub lift : ℕ → List Node → List Node
lift k [] = []
lift k (r ∷ l) = level (r.depth + k) r ∷ lift k l

unfoldable pub sink : ℕ → List Node → List Node
sink k [] = []
sink k (r ∷ l) = level (r.depth - k) r ∷ sink k l

-- the records from the first on that are deeper than d, and what follows them
unfoldable pub take_deeper : ℕ → List Node → List Node
take_deeper d [] = []
take_deeper d (r ∷ l) = pick (ltb d r.depth) (r ∷ take_deeper d l) []

unfoldable pub drop_deeper : ℕ → List Node → List Node
drop_deeper d [] = []
drop_deeper d (r ∷ l) = pick (ltb d r.depth) (drop_deeper d l) (r ∷ l)

-- those of the records that are groups
unfoldable pub only_groups : List Node → List Node
only_groups [] = []
only_groups (r ∷ l) = pick (is_group r) (r ∷ only_groups l) (only_groups l)

-- the node n with all below it, at depths from 0 on
unfoldable pub run_of : ℕ → List Node → List Node
run_of n [] = []
run_of n (r ∷ l) = pick (eqb r.number n) (sink r.depth (r ∷ take_deeper r.depth l)) (run_of n l)

-- a is b or lies below it
abbrev pub is_below : ℕ → ℕ → List Node → Bool
is_below a b t = lives a (run_of b t)

-- Edits at the record r that the records l follow: what stands there after each.
-- "`/n_free` frees a whole subtree"
abbrev pub free_here : Node → List Node → List Node
free_here r l = drop_deeper r.depth l

-- "`/g_freeAll` all below a group"
abbrev pub free_all_here : Node → List Node → List Node
free_all_here r l = r ∷ drop_deeper r.depth l

-- "`/g_deepFree` the synths at any depth, groups staying"
abbrev pub deep_free_here : Node → List Node → List Node
deep_free_here r l = r ∷ (only_groups (take_deeper r.depth l) ++ drop_deeper r.depth l)

abbrev pub set_run_here : ℕ → Node → List Node → List Node
set_run_here flag r l = with_run flag r ∷ l

-- "Add actions: 0 head, 1 tail of the target group; 2 before, 3 after the target; 4 replaces the target, whose subtree is freed."
-- The records xs that go in are given at depths from 0 on.
abbrev pub head_here : List Node → Node → List Node → List Node
head_here xs r l = r ∷ (lift (r.depth + 1) xs ++ l)

abbrev pub tail_here : List Node → Node → List Node → List Node
tail_here xs r l = r ∷ (take_deeper r.depth l ++ (lift (r.depth + 1) xs ++ drop_deeper r.depth l))

abbrev pub before_here : List Node → Node → List Node → List Node
before_here xs r l = lift r.depth xs ++ r ∷ l

abbrev pub after_here : List Node → Node → List Node → List Node
after_here xs r l = r ∷ (take_deeper r.depth l ++ (lift r.depth xs ++ drop_deeper r.depth l))

abbrev pub over_here : List Node → Node → List Node → List Node
over_here xs r l = lift r.depth xs ++ drop_deeper r.depth l

-- the table with H in the place of the record of n and of all that follows it
unfoldable pub edit_rows : ℕ → (Node → List Node → List Node) → List Node → List Node
edit_rows n H [] = []
edit_rows n H (r ∷ l) = pick (eqb r.number n) (H r l) (r ∷ edit_rows n H l)

-- the same at a place of the table
unfoldable pub edit_at : ℕ → (Node → List Node → List Node) → List Node → List Node
edit_at at H [] = []
edit_at zero H (r ∷ l) = H r l
edit_at (suc at) H (r ∷ l) = r ∷ edit_at at H l

-- each edit at the node n
abbrev pub cut : ℕ → List Node → List Node
cut n t = edit_rows n free_here t

abbrev pub cut_below : ℕ → List Node → List Node
cut_below n t = edit_rows n free_all_here t

abbrev pub deep_free : ℕ → List Node → List Node
deep_free n t = edit_rows n deep_free_here t

abbrev pub set_run : ℕ → ℕ → List Node → List Node
set_run n flag t = edit_rows n (set_run_here flag) t

abbrev pub add_head : List Node → ℕ → List Node → List Node
add_head xs n t = edit_rows n (head_here xs) t

abbrev pub add_tail : List Node → ℕ → List Node → List Node
add_tail xs n t = edit_rows n (tail_here xs) t

abbrev pub add_before : List Node → ℕ → List Node → List Node
add_before xs n t = edit_rows n (before_here xs) t

abbrev pub add_after : List Node → ℕ → List Node → List Node
add_after xs n t = edit_rows n (after_here xs) t

abbrev pub add_over : List Node → ℕ → List Node → List Node
add_over xs n t = edit_rows n (over_here xs) t

-- the record r put in by the add action with this number, of those from 0 to 4
abbrev pub add_by : ℕ → Node → ℕ → List Node → List Node
add_by zero r n t = add_head (r ∷ []) n t
add_by (suc zero) r n t = add_tail (r ∷ []) n t
add_by (suc (suc zero)) r n t = add_before (r ∷ []) n t
add_by (suc (suc (suc zero))) r n t = add_after (r ∷ []) n t
add_by (suc (suc (suc (suc k)))) r n t = add_over (r ∷ []) n t

-- "A move takes A's subtree out and puts it in where told."
abbrev pub move_before : ℕ → ℕ → List Node → List Node
move_before a b t = add_before (run_of a t) b (cut a t)

abbrev pub move_after : ℕ → ℕ → List Node → List Node
move_after a b t = add_after (run_of a t) b (cut a t)

abbrev pub move_head : ℕ → ℕ → List Node → List Node
move_head a g t = add_head (run_of a t) g (cut a t)

abbrev pub move_tail : ℕ → ℕ → List Node → List Node
move_tail a g t = add_tail (run_of a t) g (cut a t)
