-- Worked examples, by computation: what the definitions say of a small table.
use Rattle.std.specs.Prelude.{ℕ, true, false, ◌≡◌, refl, List, [], ◌∷◌}
use Rattle.nodes.specs.declared.Node.{Node}
use Rattle.nodes.specs.Table.{rows, encode, fill}
use Rattle.nodes.specs.Place.{is_group, lives}
use Rattle.nodes.specs.Edit.{lift, sink, take_deeper, drop_deeper, only_groups, run_of, is_below, edit_rows, cut, cut_below, deep_free, set_run, add_tail, add_before, add_over, move_before, move_after, move_head, move_tail}
use Rattle.nodes.specs.Structure.{no_node, first_or, last_or, at_depth, head_of, tail_of, depth_of, last_above, parent_of, last_beside, previous_of, first_beside, next_of}
use Rattle.nodes.specs.Forest.{Forest, flatten, single, beside, has, edit, put_tail, put_before}
use Rattle.nodes.specs.Order.{is_on, order_from, order, order_tree}
use Rattle.nodes.specs.Formed.{steps, rooted, apart, all_formed, row_taken, rows_apart, synth_lives, nodes_formed}

group : ℕ → ℕ → Node
group n d = record { number = n; depth = d; run = 1; slot = 32; row = 0 }

synth : ℕ → ℕ → ℕ → Node
synth n d k = record { number = n; depth = d; run = 1; slot = 0; row = k }

-- "group 1 at tail of 0, "ping" 1000 at tail of 1, "ping" 1001 before 1000"
abbrev built : List Node
built = add_before (synth 1001 0 1 ∷ []) 1000 (add_tail (synth 1000 0 0 ∷ []) 1 (add_tail (group 1 0 ∷ []) 0 (group 0 0 ∷ [])))

built_table : built ≡ group 0 0 ∷ group 1 1 ∷ synth 1001 2 1 ∷ synth 1000 2 0 ∷ []
unfolding edit_rows lift take_deeper drop_deeper group synth
built_table = refl

-- "running order 1001, 1000. Then run 1 off: empty."
built_order : order built ≡ 1001 ∷ 1000 ∷ []
unfolding edit_rows lift take_deeper drop_deeper order_from group synth
built_order = refl

off_order : order (set_run 1 0 built) ≡ []
unfolding edit_rows lift take_deeper drop_deeper order_from group synth
off_order = refl

-- the same tree, plainly
abbrev tree : Forest Node
tree = put_before (λ r. r.number) (single (synth 1001 0 1)) 1000 (put_tail (λ r. r.number) (single (synth 1000 0 0)) 1 (put_tail (λ r. r.number) (single (group 1 0)) 0 (single (group 0 0))))

tree_table : flatten 0 tree ≡ built
unfolding edit_rows lift take_deeper drop_deeper flatten edit has beside group synth
tree_table = refl

tree_order : order_tree (λ r. r.number) is_group is_on tree ≡ 1001 ∷ 1000 ∷ []
unfolding edit has beside order_tree group synth
tree_order = refl

well : nodes_formed 4294967288 1001 built ≡ true
unfolding edit_rows lift take_deeper drop_deeper lives steps rooted apart all_formed row_taken rows_apart synth_lives nodes_formed group synth
well = refl

row_twice : nodes_formed 4294967288 0 (group 0 0 ∷ synth 5 1 3 ∷ synth 6 1 3 ∷ []) ≡ false
unfolding lives steps rooted apart all_formed row_taken rows_apart synth_lives nodes_formed group synth
row_twice = refl

below_synth : nodes_formed 4294967288 0 (group 0 0 ∷ synth 5 1 3 ∷ synth 6 2 4 ∷ []) ≡ false
unfolding lives steps rooted apart all_formed row_taken rows_apart synth_lives nodes_formed group synth
below_synth = refl

not_given : nodes_formed 4294967288 0 (group 0 0 ∷ synth 4294967288 1 3 ∷ []) ≡ false
unfolding lives steps rooted apart all_formed row_taken rows_apart synth_lives nodes_formed group synth
not_given = refl

given : nodes_formed 4294967287 0 (group 0 0 ∷ synth 4294967288 1 3 ∷ []) ≡ true
unfolding lives steps rooted apart all_formed row_taken rows_apart synth_lives nodes_formed group synth
given = refl

-- groups 1 and 3, with group 2 and synths in 1
abbrev wide : List Node
wide = group 0 0 ∷ group 1 1 ∷ synth 10 2 0 ∷ group 2 2 ∷ synth 11 3 1 ∷ group 3 1 ∷ synth 12 2 2 ∷ []

freed : cut 1 wide ≡ group 0 0 ∷ group 3 1 ∷ synth 12 2 2 ∷ []
unfolding edit_rows drop_deeper group synth
freed = refl

all_freed : cut_below 1 wide ≡ group 0 0 ∷ group 1 1 ∷ group 3 1 ∷ synth 12 2 2 ∷ []
unfolding edit_rows drop_deeper group synth
all_freed = refl

deep_freed : deep_free 1 wide ≡ group 0 0 ∷ group 1 1 ∷ group 2 2 ∷ group 3 1 ∷ synth 12 2 2 ∷ []
unfolding edit_rows take_deeper drop_deeper only_groups group synth
deep_freed = refl

moved_head : move_head 2 3 wide ≡ group 0 0 ∷ group 1 1 ∷ synth 10 2 0 ∷ group 3 1 ∷ group 2 2 ∷ synth 11 3 1 ∷ synth 12 2 2 ∷ []
unfolding edit_rows take_deeper drop_deeper lift sink run_of group synth
moved_head = refl

moved_tail : move_tail 2 0 wide ≡ group 0 0 ∷ group 1 1 ∷ synth 10 2 0 ∷ group 3 1 ∷ synth 12 2 2 ∷ group 2 1 ∷ synth 11 2 1 ∷ []
unfolding edit_rows take_deeper drop_deeper lift sink run_of group synth
moved_tail = refl

moved_before : move_before 12 1 wide ≡ group 0 0 ∷ synth 12 1 2 ∷ group 1 1 ∷ synth 10 2 0 ∷ group 2 2 ∷ synth 11 3 1 ∷ group 3 1 ∷ []
unfolding edit_rows take_deeper drop_deeper lift sink run_of group synth
moved_before = refl

moved_after : move_after 1 3 wide ≡ group 0 0 ∷ group 3 1 ∷ synth 12 2 2 ∷ group 1 1 ∷ synth 10 2 0 ∷ group 2 2 ∷ synth 11 3 1 ∷ []
unfolding edit_rows take_deeper drop_deeper lift sink run_of group synth
moved_after = refl

replaced : add_over (group 7 0 ∷ []) 1 wide ≡ group 0 0 ∷ group 7 1 ∷ group 3 1 ∷ synth 12 2 2 ∷ []
unfolding edit_rows drop_deeper lift group synth
replaced = refl

below_itself : is_below 11 1 wide ≡ true
unfolding take_deeper sink run_of lives group synth
below_itself = refl

-- parent, previous, next, head and tail
family : parent_of 2 wide ∷ previous_of 2 wide ∷ next_of 2 wide ∷ head_of 2 wide ∷ tail_of 2 wide ∷ [] ≡ 1 ∷ 10 ∷ no_node ∷ 11 ∷ 11 ∷ []
unfolding take_deeper drop_deeper sink run_of first_or last_or at_depth depth_of last_above last_beside first_beside next_of group synth
family = refl

family_root : parent_of 0 wide ∷ previous_of 0 wide ∷ next_of 0 wide ∷ head_of 0 wide ∷ tail_of 0 wide ∷ [] ≡ no_node ∷ no_node ∷ no_node ∷ 1 ∷ 3 ∷ []
unfolding take_deeper drop_deeper sink run_of first_or last_or at_depth depth_of last_above last_beside first_beside next_of group synth
family_root = refl

family_first : parent_of 3 wide ∷ previous_of 3 wide ∷ next_of 1 wide ∷ next_of 3 wide ∷ previous_of 10 wide ∷ [] ≡ 0 ∷ 1 ∷ 3 ∷ no_node ∷ no_node ∷ []
unfolding take_deeper drop_deeper sink run_of first_or last_or at_depth depth_of last_above last_beside first_beside next_of group synth
family_first = refl

-- written into words and read back
kept : rows 2 (fill (7 ∷ []) (group 0 0 ∷ synth 5 1 3 ∷ [])) ≡ group 0 0 ∷ synth 5 1 3 ∷ []
unfolding rows encode group synth
kept = refl
