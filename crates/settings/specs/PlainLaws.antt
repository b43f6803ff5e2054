-- Changes of one node of the plain tree: two of one node compose, and one that leaves a synth as it is leaves the tree as it is.
use Prim.{Unit, tt}
use Rattle.std.specs.Prelude.{ℕ, Bool, ◌≡◌}
use Rattle.std.proofs.Math.Bool.{true, false}
use Rattle.std.proofs.Math.Path.{refl, sym, ap, ap₂}
use Rattle.std.proofs.Common.{◌∙◌}
use Rattle.std.proofs.Math.Option.{Option, none, some}
use Rattle.std.proofs.Math.Dec.{eqb}
use Rattle.words.specs.Choice.{pick}
use Rattle.nodes.specs.declared.Node.{Node}
use Rattle.nodes.specs.Place.{is_group}
use Rattle.nodes.specs.Forest.{Forest, node, map_forest, has, edit}
use Rattle.nodes.specs.Forest as forest
use Rattle.treerefinement.specs.Leaves.{Leaves}
use Rattle.treerefinement.specs.MapForest.{map-map}
use Rattle.model.specs.View.{PlainNode}
use Rattle.model.specs.Plain.{if_some, number_in, is_group_node, node_in}
use Rattle.refinement.specs.RowReplies.{node_rows}

-- a node and all below it changed
abbrev pub changed_at : (PlainNode → PlainNode) → ℕ → Forest PlainNode → Forest PlainNode
changed_at g n f = edit number_in n (λ x b a. node (g x) (map_forest g b) a) f

module _ (g : PlainNode → PlainNode) (same : (x : PlainNode) → number_in (g x) ≡ number_in x) (n : ℕ) where
  still : (x : PlainNode) → eqb (number_in (g x)) n ≡ eqb (number_in x) n
  still x = ap (λ (m : ℕ). eqb m n) (same x)

  changed-has : (f : Forest PlainNode) → has number_in n (changed_at g n f) ≡ has number_in n f
  unfolding has edit
  changed-has forest.none = refl
  changed-has (node x b a) = go (eqb (number_in x) n) refl (has number_in n b) refl (changed-has b) (changed-has a)
    where
      go : (p : Bool) → eqb (number_in x) n ≡ p → (q : Bool) → has number_in n b ≡ q → has number_in n (changed_at g n b) ≡ has number_in n b → has number_in n (changed_at g n a) ≡ has number_in n a
          → has number_in n (pick p (node (g x) (map_forest g b) a) (pick q (node x (changed_at g n b) a) (node x b (changed_at g n a)))) ≡ pick p true (pick q true (has number_in n a))
      go true e q w u v = rw (still x, e)
      go false e true w u v = rw (e, u, w)
      go false e false w u v = rw (e, w) v

  -- a change behind another
  pub changed-twice : (h : PlainNode → PlainNode) (f : Forest PlainNode) → changed_at h n (changed_at g n f) ≡ changed_at (λ x. h (g x)) n f
  unfolding edit
  changed-twice h forest.none = refl
  changed-twice h (node x b a) = go (eqb (number_in x) n) refl (has number_in n b) refl (changed-twice h b) (changed-twice h a)
    where
      go : (p : Bool) → eqb (number_in x) n ≡ p → (q : Bool) → has number_in n b ≡ q → changed_at h n (changed_at g n b) ≡ changed_at (λ x. h (g x)) n b
          → changed_at h n (changed_at g n a) ≡ changed_at (λ x. h (g x)) n a
          → changed_at h n (pick p (node (g x) (map_forest g b) a) (pick q (node x (changed_at g n b) a) (node x b (changed_at g n a))))
          ≡ pick p (node (h (g x)) (map_forest (λ x. h (g x)) b) a) (pick q (node x (changed_at (λ x. h (g x)) n b) a) (node x b (changed_at (λ x. h (g x)) n a)))
      go true e q w u v = rw (still x, e) (ap (λ (k : Forest PlainNode). node (h (g x)) k a) (map-map g h b))
      go false e true w u v = rw (e, changed-has b, w) (ap (λ (k : Forest PlainNode). node x k a) u)
      go false e false w u v = rw (e, w) (ap (λ (k : Forest PlainNode). node x b k) v)

-- synths have nothing below them, as the plain tree sees them
unfoldable pub PlainLeaves : Forest PlainNode → Type 0
PlainLeaves forest.none = Unit {0}
PlainLeaves (node x b a) = (is_group_node x ≡ false → b ≡ forest.none) × PlainLeaves b × PlainLeaves a

pub leaves_seen : (look : Node → PlainNode) → ((x : Node) → is_group_node (look x) ≡ is_group x) → (f : Forest Node) → Leaves f → PlainLeaves (map_forest look f)
unfolding Leaves PlainLeaves map_forest
leaves_seen look kinds forest.none l = tt
leaves_seen look kinds (node x b a) l =
    (λ q. ap (λ (k : Forest Node). map_forest look k) (l.0 (sym (kinds x) ∙ q)), leaves_seen look kinds b l.1, leaves_seen look kinds a l.2)

-- a number that is not there finds no node
not_found : (n : ℕ) (f : Forest PlainNode) → has number_in n f ≡ false → node_in n f ≡ none
unfolding has node_in
not_found n forest.none h = refl
not_found n (node x b a) h = go (eqb (number_in x) n) (has number_in n b) refl h (not_found n b) (not_found n a)
  where
    go : (p q : Bool) → has number_in n b ≡ q → pick p true (pick q true (has number_in n a)) ≡ false → (has number_in n b ≡ false → node_in n b ≡ none) → (has number_in n a ≡ false → node_in n a ≡ none)
        → pick p (some x) (if_some (node_in n b) (λ y. some y) (node_in n a)) ≡ none
    go true q w u ib ia = let z : ◌≡◌ {A = Bool} true false = u in cc
    go false true w u ib ia = let z : ◌≡◌ {A = Bool} true false = u in cc
    go false false w u ib ia = rw (ib w) (ia u)

some_same : {x y : PlainNode} → ◌≡◌ {A = Option PlainNode} (some x) (some y) → x ≡ y
some_same {x} {y} h = ap (λ (o : Option PlainNode). if_some o (λ z. z) x) h

-- a synth that a change leaves as it is
module _ (g : PlainNode → PlainNode) (n : ℕ) (x : PlainNode) (synth : is_group_node x ≡ false) (stays : g x ≡ x) where
  pub changed_same : (f : Forest PlainNode) → PlainLeaves f → node_in n f ≡ some x → changed_at g n f ≡ f
  unfolding PlainLeaves node_in edit map_forest
  changed_same forest.none l h = refl
  changed_same (node y b a) l h = go (eqb (number_in y) n) (has number_in n b) refl h (changed_same b l.1) (changed_same a l.2)
    where
      go : (p q : Bool) → has number_in n b ≡ q → pick p (some y) (if_some (node_in n b) (λ z. some z) (node_in n a)) ≡ some x
          → (node_in n b ≡ some x → changed_at g n b ≡ b) → (node_in n a ≡ some x → changed_at g n a ≡ a)
          → pick p (node (g y) (map_forest g b) a) (pick q (node y (changed_at g n b) a) (node y b (changed_at g n a))) ≡ node y b a
      go true q w u ib ia =
          let here : y ≡ x = some_same u in
          let own : g y ≡ y = ap g here ∙ stays ∙ sym here in
          let bare : b ≡ forest.none = l.0 (ap is_group_node here ∙ synth) in
          ap₂ (λ (z : PlainNode) (k : Forest PlainNode). node z (map_forest g k) a) own bare ∙ ap (λ (k : Forest PlainNode). node y k a) (sym bare)
      go false true w u ib ia = ap (λ (k : Forest PlainNode). node y k a) (ib (node_rows n b w ∙ sym (ap (λ (o : Option PlainNode). if_some o (λ z. some z) (node_in n a)) (node_rows n b w)) ∙ u))
      go false false w u ib ia = ap (λ (k : Forest PlainNode). node y b k) (ia (sym (ap (λ (o : Option PlainNode). if_some o (λ z. some z) (node_in n a)) (not_found n b w)) ∙ u))
