-- The places that a command names: a group of the table is a group of the plain tree, and a node below the root stands below another there.
use Rattle.std.specs.Prelude.{ℕ, ◌<◌, Bool, List, [], ◌∷◌, ◌++◌, ltb, leb}
use Rattle.std.proofs.Math.Bool.{true, false}
use Rattle.std.proofs.Math.Path.{◌≡◌, refl, sym, ap}
use Rattle.std.proofs.Common.{◌∙◌, arith}
use Rattle.std.proofs.Math.Option.{Option, none, some}
use Rattle.std.proofs.Math.Dec.{eqb}
use borrow.Author.Tests.{ltb-true, eqb-true, ne_eqb, eqb-false}
use Rattle.words.specs.Choice.{pick, both}
use Rattle.words.specs.ChoiceLaws.{both_true}
use Rattle.nodes.specs.declared.Node.{Node}
use Rattle.nodes.specs.Place.{is_group}
use Rattle.nodes.specs.Forest.{Forest, node, flatten, map_forest, has}
use Rattle.nodes.specs.Forest as forest
use Rattle.nodes.specs.Formed.{reach, steps, rooted}
use Rattle.treerefinement.specs.Flatten.{key}
use Rattle.treerefinement.specs.Leaves.{NoSynth}
use Rattle.treerefinement.specs.MapForest.{map-has}
use Rattle.model.specs.View.{PlainNode}
use Rattle.model.specs.Plain.{if_some, number_in, is_group_node, node_in, is_group_in, has_parent}
use Rattle.refinement.specs.RowReplies.{node_rows}

-- of records below a root none lies as high as it does
below_root : (most : ℕ) (l : List Node) (r : Node) (rest : List Node) → steps most (l ++ (r ∷ rest)) ≡ true → 0 < r.depth
unfolding steps
below_root most [] r rest h = ltb-true 0 r.depth (both_true (ltb 0 r.depth) _ h).0
below_root most (q ∷ l) r rest h =
    let w = both_true (ltb 0 q.depth) (both (leb q.depth most) (steps (reach q) (l ++ (r ∷ rest)))) h in
    below_root (reach q) l r rest (both_true (leb q.depth most) (steps (reach q) (l ++ (r ∷ rest))) w.1).1

-- a tree with a root on top has nothing beside it
root_alone : (x : Node) (b a : Forest Node) → rooted (flatten 0 (node x b a)) ≡ true → (x.number ≡ 0) × (a ≡ forest.none)
unfolding rooted flatten
root_alone x b a h =
    let u = both_true (eqb x.number 0) _ h in
    let v = both_true (is_group x) (steps 1 (flatten 1 b ++ flatten 0 a)) u.1 in
    (eqb-true x.number 0 u.0, go a v.1)
  where
    go : (a : Forest Node) → steps 1 (flatten 1 b ++ flatten 0 a) ≡ true → a ≡ forest.none
    go forest.none g = refl
    go (node y c d) g =
        let high : 0 < 0 = below_root 1 (flatten 1 b) (record { number = y.number; depth = 0; run = y.run; slot = y.slot; row = y.row }) (flatten 1 c ++ flatten 0 d) g in
        absurd (omega arith)

-- a tree of records that is seen as the plain tree
module _ (look : Node → PlainNode) (same : (x : Node) → number_in (look x) ≡ key x) (n : ℕ) where
  pub seen_has : (f : Forest Node) → has number_in n (map_forest look f) ≡ has key n f
  seen_has f = map-has look key number_in same n f

  -- a number that no synth has is a group's, if any node's
  found_group : ((x : Node) → is_group_node (look x) ≡ is_group x) → (f : Forest Node) → NoSynth n f → if_some (node_in n (map_forest look f)) (λ x. is_group_node x) true ≡ true
  unfolding NoSynth node_in map_forest
  found_group kinds forest.none s = refl
  found_group kinds (node x b a) s = go (eqb (number_in (look x)) n) refl (node_in n (map_forest look b)) (found_group kinds b s.1) (found_group kinds a s.2)
    where
      go : (p : Bool) → eqb (number_in (look x)) n ≡ p → (o : Option PlainNode) → if_some o (λ x. is_group_node x) true ≡ true → if_some (node_in n (map_forest look a)) (λ x. is_group_node x) true ≡ true
          → if_some (pick p (some (look x)) (if_some o (λ y. some y) (node_in n (map_forest look a)))) (λ x. is_group_node x) true ≡ true
      go true e o u v = kinds x ∙ s.0 (sym (same x) ∙ eqb-true (number_in (look x)) n e)
      go false e (some y) u v = u
      go false e none u v = v

  pub group-there : ((x : Node) → is_group_node (look x) ≡ is_group x) → (f : Forest Node) → NoSynth n f → has key n f ≡ true → is_group_in n (map_forest look f) ≡ true
  group-there kinds f s h =
      let found = node_rows n (map_forest look f) (seen_has f ∙ h) in
      ap (λ (o : Option PlainNode). if_some o (λ x. is_group_node x) false) found
      ∙ sym (ap (λ (o : Option PlainNode). if_some o (λ x. is_group_node x) true) found)
      ∙ found_group kinds f s

  pub parent_there : (f : Forest Node) → rooted (flatten 0 f) ≡ true → has key n f ≡ true → eqb n 0 ≡ false → has_parent n (map_forest look f) ≡ true
  unfolding has_parent has map_forest
  parent_there forest.none r h z = cc
  parent_there (node x b a) r h z =
      let w = root_alone x b a r in
      let other : eqb x.number n ≡ false = ne_eqb x.number n (λ q. eqb-false n 0 z (sym q ∙ w.0)) in
      go (has key n b) refl (sym (ap (λ (p : Bool). pick p true (pick (has key n b) true (has key n a))) other) ∙ h) (ap (λ (k : Forest Node). has key n k) w.1)
    where
      go : (q : Bool) → has key n b ≡ q → pick q true (has key n a) ≡ true → has key n a ≡ false → pick (has number_in n (map_forest look b)) true (has_parent n (map_forest look a)) ≡ true
      go true e u v = ap (λ (p : Bool). pick p true (has_parent n (map_forest look a))) (seen_has b ∙ e)
      go false e u v = let c : ◌≡◌ {A = Bool} true false = sym u ∙ v in cc
