-- Commands of the tree: the engine's nodes and the plain tree after them are the same again.
use Prim.Native.Nat.{ℕ, zero, suc, ◌≤◌}
use Rattle.std.specs.Prelude.{Bool, true, false, ◌≡◌, refl, ltb, eqb}
use Rattle.std.proofs.Common.{sym, ap₂, ◌∙◌, subst, arith}
use Rattle.std.proofs.Math.Path.{ap}
use mathlib.Core.List.{List, [], ◌∷◌}
use Rattle.std.proofs.Math.Option.{Option, none, some}
use borrow.Author.Tests.{ltb-false, eqb-true}
use Rattle.words.specs.Choice.{pick}
use Rattle.nodes.specs.declared.Node.{Node}
use Rattle.nodes.specs.Place.{is_group, lives}
use Rattle.nodes.specs.Edit.{with_run, cut, cut_below, deep_free, set_run, add_head, add_tail, add_before, add_after, add_over, move_before, move_after, move_head, move_tail, add_by}
use Rattle.nodes.specs.Forest.{Forest, flatten, map_forest, single, has, subtree, free, free_below, free_deep, change, put_head, put_tail, put_before, put_after, put_over, place_before, place_after, place_head, place_tail}
use Rattle.treerefinement.specs.Flatten.{key, lives-has}
use Rattle.treerefinement.specs.Leaves.{Leaves, NoSynth, leaves_free, leaves_free_below, leaves_free_deep, leaves_run, leaves_subtree, leaves_single, leaves_put_before, leaves_put_after, leaves_put_over, leaves_put_head, leaves_put_tail, nosynth_free}
use Rattle.treerefinement.specs.Edits.{cut_tree, cut_below_tree, deep_free_tree, set_run_tree, add_head_tree, add_tail_tree, add_before_tree, add_after_tree, add_over_tree, move_before_tree, move_after_tree, move_head_tree, move_tail_tree}
use Rattle.treerefinement.specs.MapForest.{map-has, map-free, map-free_below, map-free_deep, map-change, map-put_head, map-put_tail, map-put_before, map-put_after, map_put_over, map-place_head, map-place_tail, map-place_before, map-place_after}
use Rattle.model.specs.Engine.{Engine}
use Rattle.model.specs.View.{group, PlainNode, view_of}
use Rattle.model.specs.Checks.{bad_action}
use Rattle.model.specs.Effects.{latest_among, with_nodes, new_group}
use Rattle.model.specs.Plain.{Plain, lowest, and_then, only_if, number_in, is_group_node, is_group_in, has_parent, latest_after, with_tree, put_by, put_group, turned}
use Rattle.model.specs.Demands.{latest_synth}
use Rattle.refinement.specs.Kept.{Kept, Replayed, seen_tree, group_kind}

-- what can be done is done
pub can : {A : Type 0} {b : Bool} {x y : A} → b ≡ true → x ≡ y → only_if b x ≡ some y
can {A} {b} {x} {y} h q = ap₂ (λ (c : Bool) (z : A). only_if c z) h q

-- other nodes, laid out from a tree that is seen as the other plain tree
module _ (e : Engine) (p : Plain) (k : Kept e p) where
  pub nodes_replayed : (t : List Node) (g : Forest PlainNode) (f : Forest Node) → t ≡ flatten 0 f → Leaves f → g ≡ seen_tree e.slots e.controls f → Kept (with_nodes t e) (with_tree g p)
  nodes_replayed t g f laid leaves seen = record {
    forest = f;
    laid = laid;
    leaves = leaves;
    tree = seen;
    names = k.names;
    name_count = k.name_count;
    once = k.once;
    next = k.next;
    latest = living (eqb e.latest 0) refl (lives e.latest t) refl ∙ ap (λ (l : Option ℕ). latest_after g l) k.latest;
    buses = k.buses;
    ordered = refl;
  }
    where
      here : lives e.latest t ≡ has key e.latest f
      here = ap (λ (l : List Node). lives e.latest l) laid ∙ lives-has e.latest 0 f

      there : has number_in e.latest g ≡ has key e.latest f
      there = ap (λ (h : Forest PlainNode). has number_in e.latest h) seen ∙ map-has (view_of e.slots e.controls) key number_in (λ x. refl) e.latest f

      -- the latest, if it lives
      living : (z : Bool) → eqb e.latest 0 ≡ z → (b : Bool) → lives e.latest t ≡ b → latest_synth (latest_among t e.latest) ≡ latest_after g (latest_synth e.latest)
      living true u b v =
          ap (λ (l : ℕ). latest_synth (latest_among t l)) (eqb-true e.latest 0 u) ∙ gone (lives 0 t) ∙ ap (λ (b : Bool). latest_after g (pick b none (some e.latest))) (sym u)
        where
          gone : (b : Bool) → latest_synth (pick b 0 0) ≡ none
          gone true = refl
          gone false = refl
      living false u true v =
          ap (λ (b : Bool). latest_synth (pick b e.latest 0)) v
          ∙ ap (λ (b : Bool). pick b none (some e.latest)) u
          ∙ sym (ap (λ (b : Bool). latest_after g (pick b none (some e.latest))) u ∙ ap (λ (b : Bool). pick b (some e.latest) none) (there ∙ sym here ∙ v))
      living false u false v =
          ap (λ (b : Bool). latest_synth (pick b e.latest 0)) v
          ∙ sym (ap (λ (b : Bool). latest_after g (pick b none (some e.latest))) u ∙ ap (λ (b : Bool). pick b (some e.latest) none) (there ∙ sym here ∙ v))

  abbrev look : Node → PlainNode
  look = view_of e.slots e.controls

  abbrev f0 : Forest Node
  f0 = k.forest

  pub cut_replayed : (n : ℕ) → Kept (with_nodes (cut n e.nodes) e) (with_tree (free number_in n p.tree) p)
  cut_replayed n =
      nodes_replayed (cut n e.nodes) (free number_in n p.tree) (free key n f0) (ap (λ (l : List Node). cut n l) k.laid ∙ cut_tree n f0) (leaves_free n f0 k.leaves)
      (ap (λ (g : Forest PlainNode). free number_in n g) k.tree ∙ map-free look key number_in (λ x. refl) n f0)

  pub cut_below_replayed : (n : ℕ) → Kept (with_nodes (cut_below n e.nodes) e) (with_tree (free_below number_in n p.tree) p)
  cut_below_replayed n =
      nodes_replayed (cut_below n e.nodes) (free_below number_in n p.tree) (free_below key n f0) (ap (λ (l : List Node). cut_below n l) k.laid ∙ cut_below_tree n f0)
      (leaves_free_below n f0 k.leaves) (ap (λ (g : Forest PlainNode). free_below number_in n g) k.tree ∙ map-free_below look key number_in (λ x. refl) n f0)

  pub deep_free_replayed : (n : ℕ) → Kept (with_nodes (deep_free n e.nodes) e) (with_tree (free_deep number_in is_group_node n p.tree) p)
  deep_free_replayed n =
      nodes_replayed (deep_free n e.nodes) (free_deep number_in is_group_node n p.tree) (free_deep key is_group n f0) (ap (λ (l : List Node). deep_free n l) k.laid ∙ deep_free_tree n f0 k.leaves)
      (leaves_free_deep n f0 k.leaves)
      (ap (λ (g : Forest PlainNode). free_deep number_in is_group_node n g) k.tree ∙ map-free_deep look key number_in (λ x. refl) n f0 is_group is_group_node (λ x. group_kind e.slots e.controls x))

  pub run_replayed : (n flag : ℕ) → Kept (with_nodes (set_run n flag e.nodes) e) (with_tree (change number_in n (turned flag) p.tree) p)
  run_replayed n flag =
      nodes_replayed (set_run n flag e.nodes) (change number_in n (turned flag) p.tree) (change key n (with_run flag) f0) (ap (λ (l : List Node). set_run n flag l) k.laid ∙ set_run_tree n flag f0)
      (leaves_run n f0 k.leaves flag) (ap (λ (g : Forest PlainNode). change number_in n (turned flag) g) k.tree ∙ map-change look key number_in (λ x. refl) n f0 (with_run flag) (turned flag) (λ x. refl))

  -- moves; the group that a node moves into is no synth
  module _ (m n : ℕ) where
    moved : Leaves (subtree key m f0)
    moved = leaves_subtree m f0 k.leaves

    pub before_replayed : Kept (with_nodes (move_before m n e.nodes) e) (with_tree (place_before number_in m n p.tree) p)
    before_replayed =
        nodes_replayed (move_before m n e.nodes) (place_before number_in m n p.tree) (place_before key m n f0) (ap (λ (l : List Node). move_before m n l) k.laid ∙ move_before_tree m n f0)
        (leaves_put_before n (free key m f0) (leaves_free m f0 k.leaves) (subtree key m f0) moved)
        (ap (λ (g : Forest PlainNode). place_before number_in m n g) k.tree ∙ map-place_before look key number_in (λ x. refl) m n f0)

    pub after_replayed : Kept (with_nodes (move_after m n e.nodes) e) (with_tree (place_after number_in m n p.tree) p)
    after_replayed =
        nodes_replayed (move_after m n e.nodes) (place_after number_in m n p.tree) (place_after key m n f0) (ap (λ (l : List Node). move_after m n l) k.laid ∙ move_after_tree m n f0)
        (leaves_put_after n (free key m f0) (leaves_free m f0 k.leaves) (subtree key m f0) moved)
        (ap (λ (g : Forest PlainNode). place_after number_in m n g) k.tree ∙ map-place_after look key number_in (λ x. refl) m n f0)

    pub head_replayed : NoSynth n f0 → Kept (with_nodes (move_head m n e.nodes) e) (with_tree (place_head number_in m n p.tree) p)
    head_replayed s =
        nodes_replayed (move_head m n e.nodes) (place_head number_in m n p.tree) (place_head key m n f0) (ap (λ (l : List Node). move_head m n l) k.laid ∙ move_head_tree m n f0)
        (leaves_put_head n (free key m f0) (leaves_free m f0 k.leaves) (subtree key m f0) moved (nosynth_free n m f0 s))
        (ap (λ (g : Forest PlainNode). place_head number_in m n g) k.tree ∙ map-place_head look key number_in (λ x. refl) m n f0)

    pub tail_replayed : NoSynth n f0 → Kept (with_nodes (move_tail m n e.nodes) e) (with_tree (place_tail number_in m n p.tree) p)
    tail_replayed s =
        nodes_replayed (move_tail m n e.nodes) (place_tail number_in m n p.tree) (place_tail key m n f0) (ap (λ (l : List Node). move_tail m n l) k.laid ∙ move_tail_tree m n f0)
        (leaves_put_tail n (free key m f0) (leaves_free m f0 k.leaves) (subtree key m f0) moved (nosynth_free n m f0 s))
        (ap (λ (g : Forest PlainNode). place_tail number_in m n g) k.tree ∙ map-place_tail look key number_in (λ x. refl) m n f0)

-- the place of an add action, on both sides: a group for 0 and 1, and a node below another for the rest
pub record Place (action n : ℕ) (f : Forest Node) (g : Forest PlainNode) : Type 0 where
  pub no_synth : ltb action 2 ≡ true → NoSynth n f
  pub group_there : ltb action 2 ≡ true → is_group_in n g ≡ true
  pub node_there : ltb action 2 ≡ false → has_parent n g ≡ true

-- one node put in by an add action, on both sides: where both sides see the tree alike and see the new node alike
pub record Added (look : Node → PlainNode) (t : List Node) (g : Option (Forest PlainNode)) : Type 0 where
  pub forest : Forest Node
  pub laid : t ≡ flatten 0 forest
  pub leaves : Leaves forest
  pub seen : g ≡ some (map_forest look forest)

module _ (look : Node → PlainNode) (same : (x : Node) → number_in (look x) ≡ key x) (f : Forest Node) (leaves : Leaves f) (x : Node) (x0 : x.depth ≡ 0) (n : ℕ) where
  one : x ∷ [] ≡ flatten 0 (single x)
  unfolding flatten
  one = ap (λ (d : ℕ). record { number = x.number; depth = d; run = x.run; slot = x.slot; row = x.row } ∷ []) x0

  leafy : Leaves (single x)
  leafy = leaves_single x

  pub added : (action : ℕ) → bad_action action ≡ false → Place action n f (map_forest look f) → Added look (add_by action x n (flatten 0 f)) (put_by action (look x) n (map_forest look f))
  unfolding map_forest
  added zero h place = record {
    forest = put_head key (single x) n f;
    laid = ap (λ (l : List Node). add_head l n (flatten 0 f)) one ∙ add_head_tree (single x) n f;
    leaves = leaves_put_head n f leaves (single x) leafy (place.no_synth refl);
    seen = can (place.group_there refl) (map-put_head look key number_in same n f (single x));
  }
  added (suc zero) h place = record {
    forest = put_tail key (single x) n f;
    laid = ap (λ (l : List Node). add_tail l n (flatten 0 f)) one ∙ add_tail_tree (single x) n f;
    leaves = leaves_put_tail n f leaves (single x) leafy (place.no_synth refl);
    seen = can (place.group_there refl) (map-put_tail look key number_in same n f (single x));
  }
  added (suc (suc zero)) h place = record {
    forest = put_before key (single x) n f;
    laid = ap (λ (l : List Node). add_before l n (flatten 0 f)) one ∙ add_before_tree (single x) n f;
    leaves = leaves_put_before n f leaves (single x) leafy;
    seen = can (place.node_there refl) (map-put_before look key number_in same n f (single x));
  }
  added (suc (suc (suc zero))) h place = record {
    forest = put_after key (single x) n f;
    laid = ap (λ (l : List Node). add_after l n (flatten 0 f)) one ∙ add_after_tree (single x) n f;
    leaves = leaves_put_after n f leaves (single x) leafy;
    seen = can (place.node_there refl) (map-put_after look key number_in same n f (single x));
  }
  added (suc (suc (suc (suc zero)))) h place = record {
    forest = put_over key (single x) n f;
    laid = ap (λ (l : List Node). add_over l n (flatten 0 f)) one ∙ add_over_tree (single x) n f;
    leaves = leaves_put_over n f leaves (single x) leafy;
    seen = can (place.node_there refl) (map_put_over look key number_in same n f (single x));
  }
  added (suc (suc (suc (suc (suc k))))) h place = let low : suc (suc (suc (suc (suc k)))) ≤ 4 = ltb-false 4 (suc (suc (suc (suc (suc k))))) h in absurd (omega arith)

-- a new group, whose number no node has
pub group_replayed : (e : Engine) (p : Plain) (k : Kept e p) (number action n : ℕ) → bad_action action ≡ false → ltb number lowest ≡ true → has number_in number p.tree ≡ false
    → Place action n k.forest p.tree → Replayed (with_nodes (add_by action (new_group number) n e.nodes) e) (and_then (put_group number action n p.tree) (λ f. some (with_tree f p)))
group_replayed e p k number action n h low new place =
    let x : PlainNode = record { number = number; run = 1; kind = group } in
    let look : Node → PlainNode = view_of e.slots e.controls in
    let a = added look (λ x. refl) k.forest k.leaves (new_group number) refl n action h (subst (λ (g : Forest PlainNode). Place action n k.forest g) k.tree place) in
    let g = map_forest look a.forest in
    record {
      plain = with_tree g p;
      stepped = ap (λ (o : Option (Forest PlainNode)). and_then o (λ f. some (with_tree f p)))
          (ap₂ (λ (c d : Bool). pick c (pick d none (put_by action x n p.tree)) none) low new ∙ ap (λ (f : Forest PlainNode). put_by action x n f) k.tree ∙ a.seen);
      kept = nodes_replayed e p k (add_by action (new_group number) n e.nodes) g a.forest (ap (λ (l : List Node). add_by action (new_group number) n l) k.laid ∙ a.laid) a.leaves refl;
    }
