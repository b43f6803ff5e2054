-- What is kept is what demand 3 asks of the state after a sequence: everything equals the plain tree, its replies too.
use Rattle.std.specs.Prelude.{ℕ, zero, suc, ◌+◌, ◌*◌, ◌≤◌, Bool, not, refl, length, drop, get_or, eqb}
use Rattle.std.proofs.Math.Bool.{true, false}
use Rattle.std.proofs.Math.Path.{◌≡◌, ap, ap₂}
use Rattle.std.proofs.Common.{sym, ◌∙◌, arith, leb-true, eqb-true, ne_eqb}
use mathlib.Core.List.{List, [], ◌∷◌}
use Rattle.std.proofs.Math.Option.{Option, none, some}
use Rattle.std.proofs.lemmas.Bool.{not-false}
use Rattle.words.specs.Choice.{pick, either}
use Rattle.words.specs.ChoiceLaws.{either_false}
use Rattle.format.specs.Definition.{Definition}
use Rattle.format.specs.Names.{Covered}
use Rattle.nodes.specs.declared.Node.{Node}
use Rattle.nodes.specs.Place.{is_group, lives}
use Rattle.nodes.specs.Forest.{Forest, has, below}
use Rattle.nodes.specs.Order.{is_on, order, order_tree}
use Rattle.nodes.specs.Structure.{no_node, parent_of, children_of, parent, children}
use Rattle.treerefinement.specs.Flatten.{key, lives-has}
use Rattle.treerefinement.specs.Parent.{parent_tree}
use Rattle.treerefinement.specs.Family.{children_tree}
use Rattle.treerefinement.specs.Order.{order-tree}
use Rattle.treerefinement.specs.MapForest.{map-has, map_order, map_parent, map-children}
use Rattle.state.specs.Accepted.{QueryAccepted, accepted, known_lives}
use Rattle.osc.specs.Message.{Argument, int, float, message}
use Rattle.values.specs.declared.Key.{Key}
use Rattle.values.specs.declared.NodeArgument.{NodeArgument}
use Rattle.values.specs.Controls.{ControlValue}
use Rattle.model.specs.declared.Query.{Query}
use Rattle.model.specs.declared.Query.TheVariants as query
use Rattle.model.specs.declared.Command.TheVariants as command
use Rattle.model.specs.Layout.{row_words}
use Rattle.model.specs.Engine.{Slot, Engine, definition_of, controls_of, residents}
use Rattle.model.specs.View.{group, synth, PlainNode, Row, view_of, view_rows, view}
use Rattle.model.specs.Meaning.{meant, known, node_named, node as node_of, cover_of, has_controls, negative_key, is_negative}
use Rattle.model.specs.Checks.{not_group, no_controls}
use Rattle.model.specs.Replies.{info_address, set_address, status_address, plain_named, info_reply, key_argument, no_control, read_at, read_control, control_reply, tree_reply, flag_number, unit_count, synth_count, status_reply, reply_to, reply}
use Rattle.model.specs.Apply.{query_answer, answer_in, is_accepted}
use Rattle.model.specs.Plain.{Plain, if_some, and_then, only_if, number_in, is_group_node, is_on_node, node_in, named_in, plain_rows}
use Rattle.model.specs.PlainReplies.{bytes_of, node_info, float_read, control_in, key_shown, control_shown, flag_shown, included, nodes_shown, tree_shown, sum_over, units_in, one_synth, one_group, plain_reply, is_export}
use Rattle.model.specs.Demands.{Same}
use Rattle.refinement.specs.Kept.{Kept, view_tree, group_kind, same_meant}
use Rattle.refinement.specs.RowReplies.{info-address, set-address, bus-address, tree-address, status-address, info_rows, node_rows, same_read, same_key, control-in, tree_rows, units_rows, groups-rows, synths_rows}
use Rattle.refinement.specs.RowChange.{controls_many}
use Rattle.refinement.specs.Widths.{index_in, same_start}

-- a node that lives is found, and is seen as it lies in the table
named_number : (n : ℕ) (t : List Node) → lives n t ≡ true → (node_named n t).number ≡ n
unfolding lives node_named
named_number n [] h = cc
named_number n (r ∷ l) h = go (eqb r.number n) refl h (named_number n l)
  where
    go : (b : Bool) → eqb r.number n ≡ b → pick b true (lives n l) ≡ true → (lives n l ≡ true → (node_named n l).number ≡ n) → (pick b r (node_named n l)).number ≡ n
    go true e u ih = eqb-true r.number n e
    go false e u ih = ih u

named_view : (slots : List Slot) (controls : List ℕ) (n : ℕ) (t : List Node) → lives n t ≡ true → plain_named n (view_rows slots controls t) ≡ view_of slots controls (node_named n t)
unfolding lives node_named view_rows plain_named
named_view slots controls n [] h = cc
named_view slots controls n (r ∷ l) h = go (eqb r.number n) h (named_view slots controls n l)
  where
    go : (b : Bool) → pick b true (lives n l) ≡ true → (lives n l ≡ true → plain_named n (view_rows slots controls l) ≡ view_of slots controls (node_named n l))
        → pick b (view_of slots controls r) (plain_named n (view_rows slots controls l)) ≡ view_of slots controls (pick b r (node_named n l))
    go true u ih = refl
    go false u ih = ih u

-- "Any nonzero flag is 1."
same_included : (flag : ℕ) (l : List Argument) → pick (not (eqb flag 0)) l [] ≡ included flag l
same_included zero l = refl
same_included (suc flag) l = rw (ne_eqb (suc flag) 0 (λ q. omega arith))

same_flag : (flag : ℕ) → flag_number (not (eqb flag 0)) ≡ flag_shown flag
same_flag zero = refl
same_flag (suc flag) = rw (ne_eqb (suc flag) 0 (λ q. omega arith))

module _ (e : Engine) (p : Plain) (k : Kept e p) where
  rows : view e ≡ plain_rows 0 p.tree
  rows =
      ap (λ (l : List Node). view_rows e.slots e.controls l) k.laid
      ∙ view_tree e.slots e.controls 0 k.forest
      ∙ ap (λ (f : Forest PlainNode). plain_rows 0 f) (sym k.tree)

  abbrev look : Node → PlainNode
  look = view_of e.slots e.controls

  -- the node that a known argument means
  module _ (a : NodeArgument) (h : known a e ≡ true) where
    abbrev n : ℕ
    n = meant a e

    abbrev x : PlainNode
    x = look (node_of a e)

    there : has number_in n p.tree ≡ true
    there =
        ap (λ (f : Forest PlainNode). has number_in n f) k.tree
        ∙ map-has look key number_in (λ x. refl) n k.forest
        ∙ sym (lives-has n 0 k.forest)
        ∙ ap (λ (l : List Node). lives n l) (sym k.laid)
        ∙ known_lives a e h

    pub number : x.number ≡ n
    number = named_number n e.nodes (known_lives a e h)

    seen : plain_named n (view e) ≡ x
    seen = named_view e.slots e.controls n e.nodes (known_lives a e h)

    named : plain_named n (plain_rows 0 p.tree) ≡ x
    named = ap (λ (l : List Row). plain_named n l) (sym rows) ∙ seen

    -- the plain tree finds it
    pub found : named_in a p ≡ some x
    found =
        ap (λ (o : Option ℕ). and_then o (λ m. node_in m p.tree)) (same_meant a e p k h) ∙ node_rows n p.tree there ∙ ap (λ (y : PlainNode). some y) named

    about : (show : PlainNode → Option (List ℕ)) → and_then (named_in a p) (λ y. show y) ≡ show x
    about show = ap (λ (o : Option PlainNode). and_then o (λ y. show y)) found

    info : plain_reply (query.Node a) [] p ≡ some (info_reply n (view e))
    info =
        about (λ y. some (message (bytes_of "/n_info") (node_info p.tree y.number y.kind)))
        ∙ ap (λ (bs : List ℕ). some bs)
        (ap₂ (λ (address : List ℕ) (m : ℕ). message address (node_info p.tree m x.kind)) info-address number
        ∙ sym (ap (λ (l : List Row). info_reply n l) rows ∙ info_rows n p.tree there ∙ ap (λ (y : PlainNode). message info_address (node_info p.tree n y.kind)) named))

    abbrev d : Definition
    d = definition_of e.slots (node_of a e)

    abbrev cs : List ControlValue
    cs = controls_of e.slots e.controls (node_of a e)

    module _ (key : Key) (bytes : List ℕ) (single : is_group (node_of a e) ≡ false) (has-control : no_controls key 1 bytes a e ≡ false) where
      abbrev replied : Argument → ℕ → List ℕ
      replied asked value = message set_address (int n ∷ (asked ∷ (float value ∷ [])))

      -- the plain tree's reply, where the key starts at o
      abbrev own : List ℕ → Option ℕ → Option (List ℕ)
      own address o =
          if_some o (λ i. if_some (control_in i cs) (λ c. some (message address (int n ∷ (key_shown key bytes ∷ (float (float_read p.buses c.mapping c.own) ∷ []))))) none) none

      fits : has_controls (cover_of key bytes d) 1 d ≡ true
      fits =
          let w = either_false (either (negative_key key) (is_negative 1)) _ has-control in
          not-false (has_controls (cover_of key bytes d) 1 d) (sym (ap (λ (g : Bool). pick g false (not (has_controls (cover_of key bytes d) 1 d))) single) ∙ w.1)

      sent : control_reply n key bytes (view e) e.buses ≡ replied (key_argument key bytes) (read_at e.buses cs (cover_of key bytes d))
      sent =
          ap (λ (y : PlainNode). replied (key_argument key bytes) (read_control e.buses key bytes y.kind)) seen
          ∙ ap (λ (g : Bool). replied (key_argument key bytes) (read_control e.buses key bytes (pick g group (synth d cs)))) single

      read : (o : Option Covered) → has_controls o 1 d ≡ true → own set_address (index_in o) ≡ some (replied (key_argument key bytes) (read_at e.buses cs o))
      read none h = let z : ◌≡◌ {A = Bool} false true = h in cc
      read (some v) h =
          let i = v.index in
          let low : i + 1 ≤ length d.front.values = leb-true (i + 1) (length d.front.values) h in
          let many : length cs ≡ length d.front.values = controls_many (length d.front.values) (drop (row_words * (node_of a e).row) e.controls) in
          let c = get_or cs i no_control in
          ap (λ (o : Option ControlValue). if_some o (λ c. some (replied (key_shown key bytes) (float_read p.buses c.mapping c.own))) none) (control-in i cs (omega arith))
          ∙ ap₂ (λ (asked : Argument) (value : ℕ). some (replied asked value)) (same_key key bytes)
          (ap (λ (bs : List ℕ). float_read bs c.mapping c.own) (sym k.buses) ∙ same_read e.buses c.mapping c.own)

      control : plain_reply (query.Control a key) bytes p ≡ some (control_reply n key bytes (view e) e.buses)
      control =
          about (λ y. control_shown key bytes p.buses y.number y.kind)
          ∙ ap₂ (λ (m : ℕ) (g : Bool). control_shown key bytes p.buses m (pick g group (synth d cs))) number single
          ∙ ap₂ (λ (address : List ℕ) (o : Option ℕ). own address o) set-address (same_start key bytes d)
          ∙ read (cover_of key bytes d) fits
          ∙ ap (λ (bs : List ℕ). some bs) (sym sent)

    tree : (flag : ℕ) → not_group a e ≡ false → plain_reply (query.Tree a flag) [] p ≡ some (tree_reply n (not (eqb flag 0)) (view e))
    tree flag g =
        about (λ y. tree_shown flag p.tree y.number y.kind)
        ∙ ap₂ (λ (m : ℕ) (b : Bool). tree_shown flag p.tree m (pick b group (synth d cs))) number (not-false (is_group (node_of a e)) g)
        ∙ ap (λ (bs : List ℕ). some bs)
        (ap₂ (λ (address : List ℕ) (f : ℕ). message address (int f ∷ (int n ∷ (int (length (children number_in n p.tree)) ∷ nodes_shown flag (below number_in n p.tree))))) tree-address (sym (same_flag flag))
        ∙ sym (ap (λ (l : List Row). tree_reply n (not (eqb flag 0)) l) rows ∙ tree_rows (not (eqb flag 0)) flag (same_included flag) n p.tree there))

  status : plain_reply query.Status [] p ≡ some (status_reply (view e) (length (residents e.slots)))
  status =
      ap (λ (address : List ℕ). some (message address (int (sum_over units_in p.tree) ∷ (int (sum_over one_synth p.tree) ∷ (int (sum_over one_group p.tree) ∷ (int (length p.names) ∷ [])))))) status-address
      ∙ ap₂ (λ (u s : ℕ). some (message status_address (int u ∷ (int s ∷ (int (sum_over one_group p.tree) ∷ (int (length p.names) ∷ [])))))) (sym (units_rows p.tree)) (sym (synths_rows p.tree))
      ∙ ap₂ (λ (g m : ℕ). some (message status_address (int (unit_count (plain_rows 0 p.tree)) ∷ (int (synth_count (plain_rows 0 p.tree)) ∷ (int g ∷ (int m ∷ [])))))) (sym (groups-rows p.tree)) (sym k.name_count)
      ∙ ap (λ (l : List Row). some (status_reply l (length (residents e.slots)))) (sym rows)

  -- the reply to every query that is accepted
  accepted_reply : (q : Query) (bytes : List ℕ) → is_export q ≡ false → QueryAccepted q bytes e → plain_reply q bytes p ≡ some (reply q bytes e)
  unfolding reply_to
  accepted_reply (query.Node a) bytes x h = info a h
  accepted_reply (query.Control a key) bytes x h = control a h.node_known key bytes h.node_kind h.controls
  accepted_reply (query.Bus bus) bytes x h =
      ap (λ (b : Bool). only_if b (message (bytes_of "/c_set") (int bus ∷ (float (get_or p.buses bus 0) ∷ [])))) h
      ∙ ap₂ (λ (address bs : List ℕ). some (message address (int bus ∷ (float (get_or bs bus 0) ∷ [])))) bus-address (sym k.buses)
  accepted_reply (query.Tree a flag) bytes x h = tree a h.node_known flag h.node_kind
  accepted_reply query.Status bytes x h = status
  accepted_reply query.Export bytes x h = let z : ◌≡◌ {A = Bool} true false = x in cc

  replies : (q : Query) (bytes : List ℕ) (room : ℕ) → is_export q ≡ false → is_accepted (query_answer q bytes e room) ≡ true → plain_reply q bytes p ≡ some (reply q bytes e)
  unfolding answer_in
  replies q bytes room x h = accepted_reply q bytes x (accepted bytes e (command.Query q) room h)

  pub kept_same : Same e p
  kept_same = record {
    nodes = rows;
    parents = λ n.
        ap (λ (l : List Node). parent_of n l) k.laid
        ∙ parent_tree n k.forest
        ∙ sym (ap (λ (f : Forest PlainNode). parent number_in n f) k.tree ∙ map_parent look key number_in (λ x. refl) no_node n k.forest);
    head_to_tail = λ n.
        ap (λ (l : List Node). children_of n l) k.laid
        ∙ children_tree n k.forest
        ∙ sym (ap (λ (f : Forest PlainNode). children number_in n f) k.tree ∙ map-children look key number_in (λ x. refl) n k.forest);
    names = k.names;
    name_count = k.name_count;
    next = k.next;
    latest = k.latest;
    buses = k.buses;
    order = k.ordered
        ∙ ap (λ (l : List Node). order l) k.laid
        ∙ order-tree k.forest
        ∙ sym (ap (λ (f : Forest PlainNode). order_tree number_in is_group_node is_on_node f) k.tree
        ∙ map_order look key number_in (λ x. refl) is_group is_on is_group_node is_on_node (λ x. group_kind e.slots e.controls x) (λ x. refl) k.forest);
    replies = replies;
  }
