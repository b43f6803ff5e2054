-- What the engine's replies read from the rows of a tree is what the plain tree's own read from the tree.
use Prim.{tt}
use Rattle.std.specs.Prelude.{ℕ, zero, suc, ◌+◌, ◌<◌, Bool, true, false, ◌≡◌, length, get_or, eqb}
use Rattle.std.proofs.Math.Path.{refl, sym, ap, ap₂}
use Rattle.std.proofs.Common.{◌∙◌, le_refl, lt-ltb, le-ltb}
use mathlib.Core.List.{List, [], ◌∷◌, ◌++◌, append_assoc, append-nil}
use Rattle.std.proofs.Math.Option.{Option, none, some}
use native.Mathlib.Omega.{arith}
use Rattle.words.specs.Choice.{pick}
use Rattle.format.specs.Definition.{ParameterName, Definition}
use Rattle.format.specs.Names.{first_name}
use Rattle.nodes.specs.declared.Node.{Node}
use Rattle.nodes.specs.Forest.{Forest, node, flatten, map_forest, has, below}
use Rattle.nodes.specs.Forest as forest
use Rattle.nodes.specs.Structure.{no_node, at_depth, children_of, parent_of, previous_of, next_of, head_of, tail_of, tops, children, parent, previous, next, head, tail}
use Rattle.treerefinement.specs.Flatten.{key, Shallow, shallow_suc, neither}
use Rattle.treerefinement.specs.Parent.{parent_tree}
use Rattle.treerefinement.specs.Siblings.{previous_tree, next_tree, head_tree, tail_tree}
use Rattle.treerefinement.specs.Family.{at-tops, children_tree}
use Rattle.treerefinement.specs.MapForest.{map-has, map-tops, map_parent, map-previous, map_next, map-children, map_head, map_tail}
use Rattle.osc.specs.Message.{Argument, int, text, message}
use Rattle.values.specs.declared.Key.{Key}
use Rattle.values.specs.declared.Key.TheVariants.{Index, Name}
use Rattle.values.specs.declared.Mapping.{Mapping}
use Rattle.values.specs.declared.Mapping.TheVariants.{Unmapped, Bus}
use Rattle.values.specs.Controls.{ControlValue, shown}
use Rattle.model.specs.View.{Kind, group, synth, PlainNode, Row, is_group_kind, slot_of_kind, shape_of, shape}
use Rattle.model.specs.Replies.{info_address, set_address, bus_address, tree_address, status_address, plain_named, info_kind, info_reply, key_argument, no_control, mapping_argument, label_argument, control_arguments, flagged, kind_arguments, rows_below, rows_at, tree_arguments, subtree_rows, flag_number, tree_reply, units_of, unit_count, group_count, synth_count}
use Rattle.model.specs.Plain.{if_some, number_in, node_in, plain_rows}
use Rattle.model.specs.PlainReplies.{bytes_of, group_info, node_info, float_read, control_in, key_shown, names_at, label_shown, mapping_shown, controls_shown, included, kind_shown, nodes_shown, sum_over, units_in, one_synth, one_group}

-- the addresses
pub info-address : bytes_of "/n_info" ≡ info_address
unfolding bytes_of
info-address = refl

pub set-address : bytes_of "/n_set" ≡ set_address
unfolding bytes_of
set-address = refl

pub bus-address : bytes_of "/c_set" ≡ bus_address
unfolding bytes_of
bus-address = refl

pub tree-address : bytes_of "/g_queryTree.reply" ≡ tree_address
unfolding bytes_of
tree-address = refl

pub status-address : bytes_of "/status.reply" ≡ status_address
unfolding bytes_of
status-address = refl

-- a plain node as a record of a table
abbrev record_of : PlainNode → Node
record_of x = record { number = x.number; depth = 0; run = x.run; slot = slot_of_kind x.kind; row = 0 }

shape-append : (a b : List Row) → shape (a ++ b) ≡ shape a ++ shape b
unfolding shape
shape-append [] b = refl
shape-append (r ∷ a) b = ap (λ (l : List Node). shape_of r ∷ l) (shape-append a b)

shape-rows : (d : ℕ) (f : Forest PlainNode) → shape (plain_rows d f) ≡ flatten d (map_forest record_of f)
unfolding shape plain_rows flatten map_forest
shape-rows d forest.none = refl
shape-rows d (node x b a) =
    ap (λ (l : List Node). shape_of (record { depth = d; node = x }) ∷ l)
    (shape-append (plain_rows (d + 1) b) (plain_rows d a) ∙ ap₂ (λ (u v : List Node). u ++ v) (shape-rows (d + 1) b) (shape-rows d a))

-- `/n_query`
module _ (n : ℕ) (f : Forest PlainNode) where
  abbrev rows : List Row
  rows = plain_rows 0 f

  parent_rows : parent_of n (shape rows) ≡ parent number_in n f
  parent_rows = ap (λ (l : List Node). parent_of n l) (shape-rows 0 f) ∙ parent_tree n (map_forest record_of f) ∙ map_parent record_of number_in key (λ x. refl) no_node n f

  previous-rows : has number_in n f ≡ true → previous_of n (shape rows) ≡ previous number_in n f
  previous-rows h =
      ap (λ (l : List Node). previous_of n l) (shape-rows 0 f)
      ∙ previous_tree n (map_forest record_of f) (map-has record_of number_in key (λ x. refl) n f ∙ h)
      ∙ map-previous record_of number_in key (λ x. refl) no_node n f

  next_rows : next_of n (shape rows) ≡ next number_in n f
  next_rows = ap (λ (l : List Node). next_of n l) (shape-rows 0 f) ∙ next_tree n (map_forest record_of f) ∙ map_next record_of number_in key (λ x. refl) n f

  children-rows : children_of n (shape rows) ≡ children number_in n f
  children-rows = ap (λ (l : List Node). children_of n l) (shape-rows 0 f) ∙ children_tree n (map_forest record_of f) ∙ map-children record_of number_in key (λ x. refl) n f

  head_rows : head_of n (shape rows) ≡ head number_in n f
  head_rows = ap (λ (l : List Node). head_of n l) (shape-rows 0 f) ∙ head_tree n (map_forest record_of f) ∙ map_head record_of number_in key (λ x. refl) n f

  tail-rows : tail_of n (shape rows) ≡ tail number_in n f
  tail-rows = ap (λ (l : List Node). tail_of n l) (shape-rows 0 f) ∙ tail_tree n (map_forest record_of f) ∙ map_tail record_of number_in key (λ x. refl) n f

  kind_info : (k : Kind) → info_kind n rows (is_group_kind k) ≡ group_info f n k
  kind_info group = ap₂ (λ (h t : ℕ). int 1 ∷ (int h ∷ (int t ∷ []))) head_rows tail-rows
  kind_info (synth d cs) = refl

  pub info_rows : has number_in n f ≡ true → info_reply n rows ≡ message info_address (node_info f n (plain_named n rows).kind)
  info_rows h =
      ap₂ (λ (p q : ℕ). message info_address (int n ∷ (int p ∷ (int q ∷ (int (next_of n (shape rows)) ∷ info_kind n rows (is_group_kind (plain_named n rows).kind)))))) parent_rows (previous-rows h)
      ∙ ap₂ (λ (q : ℕ) (l : List Argument). message info_address (int n ∷ (int (parent number_in n f) ∷ (int (previous number_in n f) ∷ (int q ∷ l))))) next_rows (kind_info (plain_named n rows).kind)

-- the node of a number
named_past : (n d : ℕ) (f : Forest PlainNode) (rest : List Row) → has number_in n f ≡ false → plain_named n (plain_rows d f ++ rest) ≡ plain_named n rest
unfolding plain_rows plain_named has
named_past n d forest.none rest h = refl
named_past n d (node x b a) rest h =
    let w = neither (eqb x.number n) (has number_in n b) (has number_in n a) h in
    rw w.0
    (ap (λ (l : List Row). plain_named n l) (append_assoc (plain_rows (d + 1) b) (plain_rows d a) rest)
    ∙ named_past n (d + 1) b (plain_rows d a ++ rest) w.1
    ∙ named_past n d a rest w.2)

node_absent : (n : ℕ) (f : Forest PlainNode) → has number_in n f ≡ false → node_in n f ≡ none
unfolding node_in has
node_absent n forest.none h = refl
node_absent n (node x b a) h =
    let w = neither (eqb x.number n) (has number_in n b) (has number_in n a) h in
    rw (w.0, node_absent n b w.1) (node_absent n a w.2)

node_past : (n d : ℕ) (f : Forest PlainNode) (rest : List Row) → has number_in n f ≡ true → node_in n f ≡ some (plain_named n (plain_rows d f ++ rest))
unfolding plain_rows plain_named node_in has
node_past n d forest.none rest h = cc
node_past n d (node x b a) rest h =
    go (eqb x.number n) (has number_in n b) refl h
    (λ e. node_past n (d + 1) b (plain_rows d a ++ rest) e)
    (λ e. node_past n d a rest e)
  where
    tail : List Row
    tail = (plain_rows (d + 1) b ++ plain_rows d a) ++ rest

    regroup : tail ≡ plain_rows (d + 1) b ++ (plain_rows d a ++ rest)
    regroup = append_assoc (plain_rows (d + 1) b) (plain_rows d a) rest

    go : (p q : Bool) → has number_in n b ≡ q → pick p true (pick q true (has number_in n a)) ≡ true
        → (has number_in n b ≡ true → node_in n b ≡ some (plain_named n (plain_rows (d + 1) b ++ (plain_rows d a ++ rest)))) → (has number_in n a ≡ true → node_in n a ≡ some (plain_named n (plain_rows d a ++ rest)))
        → pick p (some x) (if_some (node_in n b) (λ y. some y) (node_in n a)) ≡ some (pick p x (plain_named n tail))
    go true q e u i j = refl
    go false true e u i j =
        ap (λ (o : Option PlainNode). if_some o (λ y. some y) (node_in n a)) (i e) ∙ ap (λ (l : List Row). some (plain_named n l)) (sym regroup)
    go false false e u i j =
        ap (λ (o : Option PlainNode). if_some o (λ y. some y) (node_in n a)) (node_absent n b e)
        ∙ j u
        ∙ ap (λ (y : PlainNode). some y) (sym (ap (λ (l : List Row). plain_named n l) regroup ∙ named_past n (d + 1) b (plain_rows d a ++ rest) e))

pub node_rows : (n : ℕ) (f : Forest PlainNode) → has number_in n f ≡ true → node_in n f ≡ some (plain_named n (plain_rows 0 f))
node_rows n f h = node_past n 0 f [] h ∙ ap (λ (l : List Row). some (plain_named n l)) (append-nil (plain_rows 0 f))

-- controls: what is read, and how it is shown
pub same_read : (buses : List ℕ) (m : Mapping) (own : ℕ) → float_read buses m own ≡ shown buses m own
same_read buses Unmapped own = refl
same_read buses (Bus b) own = refl

pub same_key : (key : Key) (name : List ℕ) → key_shown key name ≡ key_argument key name
same_key (Index i) name = refl
same_key Name name = refl

pub control-in : (i : ℕ) (cs : List ControlValue) → i < length cs → control_in i cs ≡ some (get_or cs i no_control)
unfolding control_in
control-in i [] h = absurd (omega arith)
control-in zero (c ∷ cs) h = refl
control-in (suc i) (c ∷ cs) h = control-in i cs (omega arith)

same_label : (i : ℕ) (names : List ParameterName) → label_argument (first_name i names) i ≡ label_shown i (names_at i names)
unfolding first_name names_at
same_label i [] = refl
same_label i (q ∷ more) = go (eqb q.index i) (same_label i more)
  where
    go : (b : Bool) → label_argument (first_name i more) i ≡ label_shown i (names_at i more) → label_argument (pick b (some q.name) (first_name i more)) i ≡ label_shown i (pick b (q.name ∷ names_at i more) (names_at i more))
    go true ih = refl
    go false ih = ih

same_mapping : (m : Mapping) (own : ℕ) → mapping_argument m own ≡ mapping_shown m own
same_mapping Unmapped own = refl
same_mapping (Bus b) own = refl

same_controls : (i : ℕ) (names : List ParameterName) (cs : List ControlValue) → control_arguments i names cs ≡ controls_shown i names cs
unfolding control_arguments controls_shown
same_controls i names [] = refl
same_controls i names (c ∷ cs) =
    ap₂ (λ (a b : Argument). a ∷ (b ∷ control_arguments (i + 1) names cs)) (same_label i names) (same_mapping c.mapping c.own)
    ∙ ap (λ (l : List Argument). label_shown i (names_at i names) ∷ (mapping_shown c.mapping c.own ∷ l)) (same_controls (i + 1) names cs)

-- rows less deep follow
shallow_rows : (d : ℕ) (a : Forest PlainNode) (rest : List Row) → Shallow d (shape rest) → Shallow d (shape (plain_rows d a ++ rest))
unfolding plain_rows shape Shallow
shallow_rows d forest.none rest s = s
shallow_rows d (node x b a) rest s = le_refl d

below_past : (d e : ℕ) (f : Forest PlainNode) (rest : List Row) → d < e → rows_below d (plain_rows e f ++ rest) ≡ plain_rows e f ++ rows_below d rest
unfolding plain_rows rows_below
below_past d e forest.none rest h = refl
below_past d e (node x b a) rest h =
    rw (lt-ltb d e h)
    (ap (λ (l : List Row). record { depth = e; node = x } ∷ l)
    (ap (λ (l : List Row). rows_below d l) (append_assoc (plain_rows (e + 1) b) (plain_rows e a) rest)
    ∙ below_past d (e + 1) b (plain_rows e a ++ rest) (omega arith)
    ∙ ap (λ (l : List Row). plain_rows (e + 1) b ++ l) (below_past d e a rest h)
    ∙ sym (append_assoc (plain_rows (e + 1) b) (plain_rows e a) (rows_below d rest))))

below_stops : (d : ℕ) (rest : List Row) → Shallow d (shape rest) → rows_below d rest ≡ []
unfolding rows_below Shallow shape
below_stops d [] s = refl
below_stops d (r ∷ l) s = rw (le-ltb d r.depth s)

below_rows : (d : ℕ) (b a : Forest PlainNode) (rest : List Row) → Shallow d (shape rest) → rows_below d (plain_rows (d + 1) b ++ (plain_rows d a ++ rest)) ≡ plain_rows (d + 1) b
below_rows d b a rest s =
    below_past d (d + 1) b (plain_rows d a ++ rest) (omega arith)
    ∙ ap (λ (l : List Row). plain_rows (d + 1) b ++ l) (below_stops d (plain_rows d a ++ rest) (shallow_rows d a rest s))
    ∙ append-nil (plain_rows (d + 1) b)

-- as many rows at a depth as children
rows-at : (d : ℕ) (l : List Row) → rows_at d l ≡ length (at_depth d (shape l))
unfolding rows_at at_depth shape
rows-at d [] = refl
rows-at d (r ∷ l) = go (eqb r.depth d) (rows-at d l)
  where
    go : (b : Bool) → rows_at d l ≡ length (at_depth d (shape l)) → pick b (suc (rows_at d l)) (rows_at d l) ≡ length (pick b (r.node.number ∷ at_depth d (shape l)) (at_depth d (shape l)))
    go true ih = ap suc ih
    go false ih = ih

count_rows : (d : ℕ) (f : Forest PlainNode) → rows_at d (plain_rows d f) ≡ length (tops number_in f)
count_rows d f =
    rows-at d (plain_rows d f)
    ∙ ap (λ (l : List Node). length (at_depth d l)) (shape-rows d f)
    ∙ ap (λ (l : List ℕ). length l) (at-tops d (map_forest record_of f) ∙ map-tops record_of number_in key (λ x. refl) f)

subtree_past : (n d : ℕ) (f : Forest PlainNode) (rest : List Row) → has number_in n f ≡ false → subtree_rows n (plain_rows d f ++ rest) ≡ subtree_rows n rest
unfolding plain_rows subtree_rows has
subtree_past n d forest.none rest h = refl
subtree_past n d (node x b a) rest h =
    let w = neither (eqb x.number n) (has number_in n b) (has number_in n a) h in
    rw w.0
    (ap (λ (l : List Row). subtree_rows n l) (append_assoc (plain_rows (d + 1) b) (plain_rows d a) rest)
    ∙ subtree_past n (d + 1) b (plain_rows d a ++ rest) w.1
    ∙ subtree_past n d a rest w.2)

-- `/g_queryTree`, with controls or without
module _ (with : Bool) (flag : ℕ) (same : (l : List Argument) → pick with l [] ≡ included flag l) where
  same_flagged : (d : Definition) (cs : List ControlValue) → flagged with d cs ≡ included flag (int (length cs) ∷ controls_shown 0 d.front.names cs)
  same_flagged d cs =
      split with
      ∙ ap (λ (l : List Argument). pick with (int (length cs) ∷ l) []) (same_controls 0 d.front.names cs)
      ∙ same (int (length cs) ∷ controls_shown 0 d.front.names cs)
    where
      split : (b : Bool) → flagged b d cs ≡ pick b (int (length cs) ∷ control_arguments 0 d.front.names cs) []
      split true = refl
      split false = refl

  same_kind : (children : ℕ) (k : Kind) → kind_arguments with children k ≡ kind_shown flag children k
  same_kind children group = refl
  same_kind children (synth d cs) = ap (λ (l : List Argument). int no_node ∷ (text d.front.name ∷ l)) (same_flagged d cs)

  tree_past : (d : ℕ) (f : Forest PlainNode) (rest : List Row) → Shallow d (shape rest) → tree_arguments with (plain_rows d f ++ rest) ≡ nodes_shown flag f ++ tree_arguments with rest
  unfolding plain_rows tree_arguments nodes_shown
  tree_past d forest.none rest s = refl
  tree_past d (node x b a) rest s =
      let u = shallow_rows d a rest s in
      let front : List Argument = int x.number ∷ kind_shown flag (length (tops number_in b)) x.kind in
      ap (λ (l : List Row). (int x.number ∷ kind_arguments with (rows_at (d + 1) (rows_below d l)) x.kind) ++ tree_arguments with l) (append_assoc (plain_rows (d + 1) b) (plain_rows d a) rest)
      ∙ ap₂ (λ (m : ℕ) (l : List Argument). (int x.number ∷ kind_arguments with m x.kind) ++ l)
      (ap (λ (l : List Row). rows_at (d + 1) l) (below_rows d b a rest s) ∙ count_rows (d + 1) b)
      (tree_past (d + 1) b (plain_rows d a ++ rest) (shallow_suc d (shape (plain_rows d a ++ rest)) u) ∙ ap (λ (l : List Argument). nodes_shown flag b ++ l) (tree_past d a rest s))
      ∙ ap (λ (k : List Argument). (int x.number ∷ k) ++ (nodes_shown flag b ++ (nodes_shown flag a ++ tree_arguments with rest))) (same_kind (length (tops number_in b)) x.kind)
      ∙ sym (append_assoc front (nodes_shown flag b ++ nodes_shown flag a) (tree_arguments with rest)
      ∙ ap (λ (l : List Argument). front ++ l) (append_assoc (nodes_shown flag b) (nodes_shown flag a) (tree_arguments with rest)))

  whole_rows : (d : ℕ) (f : Forest PlainNode) → tree_arguments with (plain_rows d f) ≡ nodes_shown flag f
  unfolding tree_arguments shape Shallow
  whole_rows d f =
      ap (λ (l : List Row). tree_arguments with l) (sym (append-nil (plain_rows d f))) ∙ tree_past d f [] tt ∙ append-nil (nodes_shown flag f)

  subtree-shown : (n d : ℕ) (f : Forest PlainNode) (rest : List Row) → has number_in n f ≡ true → Shallow d (shape rest)
      → tree_arguments with (subtree_rows n (plain_rows d f ++ rest)) ≡ nodes_shown flag (below number_in n f)
  unfolding plain_rows subtree_rows has below
  subtree-shown n d forest.none rest h s = cc
  subtree-shown n d (node x b a) rest h s =
      go (eqb x.number n) (has number_in n b) refl h
      (λ e. subtree-shown n (d + 1) b (plain_rows d a ++ rest) e (shallow_suc d (shape (plain_rows d a ++ rest)) (shallow_rows d a rest s)))
      (λ e. subtree-shown n d a rest e s)
    where
      tail : List Row
      tail = (plain_rows (d + 1) b ++ plain_rows d a) ++ rest

      regroup : tail ≡ plain_rows (d + 1) b ++ (plain_rows d a ++ rest)
      regroup = append_assoc (plain_rows (d + 1) b) (plain_rows d a) rest

      go : (p q : Bool) → has number_in n b ≡ q → pick p true (pick q true (has number_in n a)) ≡ true
          → (has number_in n b ≡ true → tree_arguments with (subtree_rows n (plain_rows (d + 1) b ++ (plain_rows d a ++ rest))) ≡ nodes_shown flag (below number_in n b))
          → (has number_in n a ≡ true → tree_arguments with (subtree_rows n (plain_rows d a ++ rest)) ≡ nodes_shown flag (below number_in n a))
          → tree_arguments with (pick p (rows_below d tail) (subtree_rows n tail)) ≡ nodes_shown flag (pick p b (pick q (below number_in n b) (below number_in n a)))
      go true q e u i j =
          ap (λ (l : List Row). tree_arguments with l) (ap (λ (l : List Row). rows_below d l) regroup ∙ below_rows d b a rest s) ∙ whole_rows (d + 1) b
      go false true e u i j = ap (λ (l : List Row). tree_arguments with (subtree_rows n l)) regroup ∙ i e
      go false false e u i j =
          ap (λ (l : List Row). tree_arguments with l) (ap (λ (l : List Row). subtree_rows n l) regroup ∙ subtree_past n (d + 1) b (plain_rows d a ++ rest) e) ∙ j u

  pub tree_rows : (n : ℕ) (f : Forest PlainNode) → has number_in n f ≡ true
      → tree_reply n with (plain_rows 0 f) ≡ message tree_address (int (flag_number with) ∷ (int n ∷ (int (length (children number_in n f)) ∷ nodes_shown flag (below number_in n f))))
  unfolding shape Shallow
  tree_rows n f h =
      ap₂ (λ (k : List ℕ) (l : List Argument). message tree_address (int (flag_number with) ∷ (int n ∷ (int (length k) ∷ l)))) (children-rows n f)
      (ap (λ (l : List Row). tree_arguments with (subtree_rows n l)) (sym (append-nil (plain_rows 0 f))) ∙ subtree-shown n 0 f [] h tt)

-- `/status`: one law for the three counts
module _ (count : List Row → ℕ) (one : Kind → ℕ) (empty : count [] ≡ 0) (more : (r : Row) (l : List Row) → count (r ∷ l) ≡ one r.node.kind + count l) where
  sum_past : (d : ℕ) (f : Forest PlainNode) (rest : List Row) → count (plain_rows d f ++ rest) ≡ sum_over one f + count rest
  unfolding plain_rows sum_over
  sum_past d forest.none rest = omega arith
  sum_past d (node x b a) rest =
      let first = more (record { depth = d; node = x }) ((plain_rows (d + 1) b ++ plain_rows d a) ++ rest) in
      let regroup : count ((plain_rows (d + 1) b ++ plain_rows d a) ++ rest) ≡ count (plain_rows (d + 1) b ++ (plain_rows d a ++ rest)) = ap count (append_assoc (plain_rows (d + 1) b) (plain_rows d a) rest) in
      let u = sum_past (d + 1) b (plain_rows d a ++ rest) in
      let v = sum_past d a rest in
      omega arith

  sum_rows : (f : Forest PlainNode) → count (plain_rows 0 f) ≡ sum_over one f
  sum_rows f = ap count (sym (append-nil (plain_rows 0 f))) ∙ omega (arith, sum_past 0 f [], empty)

same_units : (k : Kind) → units_of k ≡ units_in k
same_units group = refl
same_units (synth d cs) = refl

same_group : (k : Kind) → pick (is_group_kind k) 1 0 ≡ one_group k
same_group group = refl
same_group (synth d cs) = refl

same_synth : (k : Kind) → pick (is_group_kind k) 0 1 ≡ one_synth k
same_synth group = refl
same_synth (synth d cs) = refl

pub units_rows : (f : Forest PlainNode) → unit_count (plain_rows 0 f) ≡ sum_over units_in f
unfolding unit_count
units_rows f = sum_rows unit_count units_in refl (λ r l. ap (λ (n : ℕ). n + unit_count l) (same_units r.node.kind)) f

pub groups-rows : (f : Forest PlainNode) → group_count (plain_rows 0 f) ≡ sum_over one_group f
unfolding group_count
groups-rows f = sum_rows group_count one_group refl (λ r l. ap (λ (n : ℕ). n + group_count l) (same_group r.node.kind)) f

pub synths_rows : (f : Forest PlainNode) → synth_count (plain_rows 0 f) ≡ sum_over one_synth f
unfolding synth_count
synths_rows f = sum_rows synth_count one_synth refl (λ r l. ap (λ (n : ℕ). n + synth_count l) (same_synth r.node.kind)) f
