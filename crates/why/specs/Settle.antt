-- The tests of the table settle the reason in its tree.
use Rattle.std.specs.Prelude.{ℕ, ◌+◌, ◌*◌, ◌≤◌, ◌<◌, Bool, false, ◌≡◌, refl}
use Rattle.std.proofs.Math.Bool.{true}
use Rattle.std.proofs.Math.Path.{sym, ap, ap₂}
use Rattle.std.proofs.Common.{◌∙◌, subst, arith, take-append-drop, leb-true, leb-false, le-leb}
use mathlib.Core.List.{List, [], ◌∷◌, ◌++◌, append-nil}
use Rattle.std.proofs.Math.Option.{Option, none, some}
use Rattle.std.proofs.Math.ListN.{length, drop}
use Rattle.std.proofs.Math.Dec.{leb, eqb}
use Rattle.words.specs.Choice.{pick}
use Rattle.words.specs.Parts.{region}
use Rattle.nodes.specs.declared.Node.{Node}
use Rattle.nodes.specs.Table.{width, node_from, rows}
use Rattle.nodes.specs.TableLaws.{row-from, rows_take}
use Rattle.nodes.specs.Place.{is_group, place, lives}
use Rattle.nodes.specs.PlaceLaws.{found, not_found}
use Rattle.nodes.specs.Structure.{depth_of}
use Rattle.nodes.specs.Forest.{Forest, node, flatten, items, has}
use Rattle.nodes.specs.Forest as forest
use Rattle.nodes.specs.Order.{is_on, order, order_from, order_tree}
use Rattle.nodes.specs.Formed.{rooted, apart}
use Rattle.treerefinement.specs.Flatten.{key, lives-has}
use Rattle.treerefinement.specs.Tally.{one, tally, tally-append}
use Rattle.treerefinement.specs.Keep.{numbered, apart_few}
use Rattle.treerefinement.specs.Parent.{depth_in, depth_flatten}
use Rattle.treerefinement.specs.Order.{order-tree}
use Rattle.treerefinement.specs.Build.{build}
use Rattle.treerefinement.specs.Shape.{items_build, build-flatten}
use Rattle.model.specs.Layout.{nodes_place, nodes_words, count_in, latest_in, nodes_in, record_in}
use Rattle.model.specs.Plain.{minus_one}
use Rattle.why.specs.declared.Reason.TheVariants.{NoNode, Group, Off, AncestorOff, Running}
use Rattle.why.specs.Reasons.{node_of, ancestors, first_off, place_from1, reason_on, first_true, reason}
use Rattle.why.specs.Rows.{sight, sight_to, row_reason, asked_place}
use Rattle.why.specs.Table.{table_reason}
use Rattle.why.specs.Runs.{times, no_node}
use Rattle.why.specs.Sight.{rows_before, before_place, off_seen, order_on, order_before, place_behind}
use Rattle.why.specs.Search.{node_row, depth_row, number_row}

-- numbers differ in the tree as in the table
times-tally : (n d : ℕ) (f : Forest Node) → times key n f ≡ tally (numbered n) (flatten d f)
unfolding times flatten tally
times-tally n d forest.none = refl
times-tally n d (node x b a) =
    ap (λ (k : ℕ). one (eqb x.number n) + k)
    (ap₂ (λ (i j : ℕ). i + j) (times-tally n (d + 1) b) (times-tally n d a) ∙ sym (tally-append (numbered n) (flatten (d + 1) b) (flatten d a)))

pub times_once : (n : ℕ) (f : Forest Node) → apart (flatten 0 f) ≡ true → times key n f ≤ 1
times_once n f h = rw (times-tally n 0 f) (apart_few (flatten 0 f) h n)

-- the tests of the table settle the reason in its tree
module _ (ws : List ℕ) (root : rooted (nodes_in ws) ≡ true) (n : ℕ) where
  abbrev t : List Node
  t = nodes_in ws

  abbrev f : Forest Node
  f = build (nodes_in ws)

  abbrev us : List ℕ
  us = region nodes_place nodes_words ws

  abbrev at : ℕ
  at = place n (nodes_in ws)

  abbrev row : Node
  row = node_from us (width * place n t)

  laid : flatten 0 (build (nodes_in ws)) ≡ nodes_in ws
  laid = build-flatten t root

  listed : items (build (nodes_in ws)) ≡ nodes_in ws
  listed = items_build t

  living : has key n (build (nodes_in ws)) ≡ lives n (nodes_in ws)
  living = sym (lives-has n 0 f) ∙ ap (λ (l : List Node). lives n l) laid

  orders : order_tree key is_group is_on (build (nodes_in ws)) ≡ order_from 0 (nodes_in ws)
  orders = sym (order-tree f) ∙ ap order laid

  settle_none : count_in ws ≤ place n (nodes_in ws) → reason key is_group is_on n (build (nodes_in ws)) ≡ NoNode
  settle_none h =
      ap (λ (y : Option Node). first_true key is_group is_on y (first_off key is_on (ancestors key n f)) (place_from1 n (order_tree key is_group is_on f)))
      (no_node key n f (living ∙ not_found (count_in ws) us n h))

  module _ (h : place n (nodes_in ws) < count_in ws) where
    here : drop (place n (nodes_in ws)) (nodes_in ws) ≡ record_in ws (place n (nodes_in ws)) ∷ drop (place n (nodes_in ws) + 1) (nodes_in ws)
    here = row-from (count_in ws) us (place n t) h

    lived : has key n (build (nodes_in ws)) ≡ true
    lived = living ∙ found (count_in ws) us n h

    node_here : node_of key n (build (nodes_in ws)) ≡ some (record_in ws (place n (nodes_in ws)))
    node_here =
        node_row n f row (drop (place n t + 1) t) lived
        (subst (λ (l : List Node). drop (place n l) l ≡ row ∷ drop (place n t + 1) t) (sym listed) here)

    -- the rows before it
    rows_here : rows_before n (nodes_in ws) ≡ rows (place n (nodes_in ws)) (region nodes_place nodes_words ws)
    rows_here = before_place n t ∙ rows_take (place n t) (count_in ws) us (omega arith)

    deep : depth_in 0 n (build (nodes_in ws)) ≡ (record_in ws (place n (nodes_in ws))).depth
    deep =
        sym (depth_flatten n 0 f [] lived)
        ∙ ap (λ (l : List Node). depth_of n l) (append-nil (flatten 0 f) ∙ laid)
        ∙ depth_row n t row (drop (place n t + 1) t) here

    -- the off ancestor is the one that was seen
    off_here : first_off key is_on (ancestors key n (build (nodes_in ws)))
        ≡ pick (leb (record_in ws (place n (nodes_in ws))).depth (sight_to (region nodes_place nodes_words ws) (place n (nodes_in ws))).0) none
        (some (sight_to (region nodes_place nodes_words ws) (place n (nodes_in ws))).1)
    off_here =
        off_seen n 0 f [] (0, 0) lived (omega arith)
        ∙ ap₂ (λ (k : ℕ) (l : List Node). pick (leb k (sight (0, 0) l).0) none (some (sight (0, 0) l).1)) deep
        (ap (λ (l : List Node). rows_before n l) (append-nil (flatten 0 f) ∙ laid) ∙ rows_here)

    -- where it runs, so many run before it
    place_here : is_group (record_in ws (place n (nodes_in ws))) ≡ false → is_on (record_in ws (place n (nodes_in ws))) ≡ true
        → leb (record_in ws (place n (nodes_in ws))).depth (sight_to (region nodes_place nodes_words ws) (place n (nodes_in ws))).0 ≡ true
        → place_from1 n (order_tree key is_group is_on (build (nodes_in ws))) ≡ length (order_from 0 (rows (place n (nodes_in ws)) (region nodes_place nodes_words ws))) + 1
    unfolding order_from place_from1
    place_here g o q =
        let before = rows_before n t in
        let split : t ≡ before ++ (row ∷ drop (at + 1) t) = sym (take-append-drop at t) ∙ ap₂ (λ (a b : List Node). a ++ b) (sym (before_place n t)) here in
        let seen : leb row.depth (sight (0, 0) before).0 ≡ true = ap (λ (l : List Node). leb row.depth (sight (0, 0) l).0) rows_here ∙ q in
        let own : eqb row.number n ≡ true = number_row n t row (drop (at + 1) t) here in
        ap (λ (l : List ℕ). place_from1 n l) (orders ∙ ap (order_from 0) split ∙ order_on (0, 0) before (row ∷ drop (at + 1) t))
        ∙ place_behind n (order_from 0 before) (order_from (sight (0, 0) before).0 (row ∷ drop (at + 1) t)) (order_before n 0 t)
        ∙ ap (λ (k : ℕ). length (order_from 0 before) + k) (rw (seen, o, g, own))
        ∙ ap (λ (l : List Node). length (order_from 0 l) + 1) rows_here

  pub row-reason : reason key is_group is_on n (build (nodes_in ws)) ≡ row_reason (region nodes_place nodes_words ws) (count_in ws) (place n (nodes_in ws))
  row-reason = go (leb (count_in ws) at) refl
    where
      live : (h : place n (nodes_in ws) < count_in ws) (g o q : Bool) → is_group row ≡ g → is_on row ≡ o → leb row.depth (sight_to us at).0 ≡ q
          → pick g Group (pick o (reason_on (pick q none (some (sight_to us at).1)) (place_from1 n (order_tree key is_group is_on f))) Off)
          ≡ pick g Group (pick o (pick q (Running (length (order_from 0 (rows at us)) + 1)) (AncestorOff (sight_to us at).1)) Off)
      live h true o q eg eo eq = refl
      live h false false q eg eo eq = refl
      live h false true false eg eo eq = refl
      live h false true true eg eo eq = ap Running (place_here h eg eo eq)

      go : (b : Bool) → leb (count_in ws) at ≡ b → reason key is_group is_on n f
          ≡ pick b NoNode (pick (is_group row) Group (pick (is_on row) (pick (leb row.depth (sight_to us at).0) (Running (length (order_from 0 (rows at us)) + 1)) (AncestorOff (sight_to us at).1)) Off))
      go true e = settle_none (leb-true (count_in ws) at e)
      go false e =
          let h : at < count_in ws = leb-false (count_in ws) at e in
          ap₂ (λ (y : Option Node) (u : Option ℕ). first_true key is_group is_on y u (place_from1 n (order_tree key is_group is_on f))) (node_here h) (off_here h)
          ∙ live h (is_group row) (is_on row) (leb row.depth (sight_to us at).0) refl refl refl

-- the reason for a number is that of the row it asks for
pub table-reason : (ws : List ℕ) → rooted (nodes_in ws) ≡ true → (number : ℕ) → table_reason number (latest_in ws) (nodes_in ws) ≡ row_reason (region nodes_place nodes_words ws) (count_in ws) (asked_place number ws)
table-reason ws root number = go (eqb number minus_one) (eqb (latest_in ws) 0)
  where
    us : List ℕ
    us = region nodes_place nodes_words ws

    go : (p q : Bool) → pick p (pick q NoNode (reason key is_group is_on (latest_in ws) (build (nodes_in ws)))) (reason key is_group is_on number (build (nodes_in ws)))
        ≡ row_reason (region nodes_place nodes_words ws) (count_in ws) (pick p (pick q (count_in ws) (place (latest_in ws) (nodes_in ws))) (place number (nodes_in ws)))
    go true true = sym (rw (le-leb (count_in ws) (count_in ws) (omega arith)))
    go true false = row-reason ws root (latest_in ws)
    go false q = row-reason ws root number
