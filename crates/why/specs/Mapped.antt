-- A reason looks at a node's number, its kind and its run flag alone: it is the same in the tree of the table and in that tree as the plain tree
-- knows it.
use Rattle.std.specs.Prelude.{ℕ, ◌+◌, Bool, ◌≡◌, eqb, Ok, Err}
use Rattle.std.proofs.Math.Bool.{true, false}
use Rattle.std.proofs.Math.Path.{refl, ap, ap₂}
use Rattle.std.proofs.Common.{sym, ◌∙◌}
use mathlib.Core.List.{List, [], ◌∷◌, map}
use Rattle.std.proofs.Math.Option.{Option, none, some}
use Rattle.words.specs.Choice.{pick}
use Rattle.nodes.specs.declared.Node.{Node}
use Rattle.nodes.specs.Place.{is_group}
use Rattle.nodes.specs.Forest.{Forest, node, map_forest, has}
use Rattle.nodes.specs.Forest as forest
use Rattle.nodes.specs.Order.{is_on, order_tree}
use Rattle.treerefinement.specs.Tally.{one}
use Rattle.treerefinement.specs.Flatten.{key}
use Rattle.treerefinement.specs.Build.{build}
use Rattle.treerefinement.specs.MapForest.{map-has, map_order}
use Rattle.model.specs.Layout.{latest_in, nodes_in}
use Rattle.model.specs.Engine.{Slot, decode, definition_of, controls_of}
use Rattle.model.specs.View.{group, synth, is_group_kind, view_of}
use Rattle.model.specs.Formed.{formed}
use Rattle.model.specs.Plain.{if_some, minus_one, number_in, is_group_node, is_on_node}
use Rattle.why.specs.declared.Reason.{Reason}
use Rattle.why.specs.declared.Reason.TheVariants.{NoNode}
use Rattle.refusals.specs.declared.Refusal.TheVariants.{BadState}
use Rattle.why.specs.Reasons.{node_of, ancestors, first_off, place_from1, first_true, reason, plain_reason}
use Rattle.why.specs.Held.{held_tree, held_why, why_told}
use Rattle.why.specs.Table.{table_reason}
use Rattle.why.specs.Runs.{times}

module _ {A B : Type 0} (g : A → B) (look : A → ℕ) (see : B → ℕ) (same : (x : A) → see (g x) ≡ look x) where
  abbrev seen : Option A → Option B
  seen y = if_some y (λ x. some (g x)) none

  map_node : (n : ℕ) (f : Forest A) → node_of see n (map_forest g f) ≡ seen (node_of look n f)
  unfolding node_of map_forest
  map_node n forest.none = refl
  map_node n (node x b a) =
      ap₂ (λ (k : ℕ) (q : Bool). pick (eqb k n) (some (g x)) (pick q (node_of see n (map_forest g b)) (node_of see n (map_forest g a)))) (same x) (map-has g look see same n b)
      ∙ ap₂ (λ (u v : Option B). pick (eqb (look x) n) (some (g x)) (pick (has look n b) u v)) (map_node n b) (map_node n a)
      ∙ go (eqb (look x) n) (has look n b)
    where
      go : (p q : Bool) → pick p (some (g x)) (pick q (seen (node_of look n b)) (seen (node_of look n a))) ≡ seen (pick p (some x) (pick q (node_of look n b) (node_of look n a)))
      go true q = refl
      go false true = refl
      go false false = refl

  pub map-ancestors : (n : ℕ) (f : Forest A) → ancestors see n (map_forest g f) ≡ map g (ancestors look n f)
  unfolding ancestors map_forest
  map-ancestors n forest.none = refl
  map-ancestors n (node x b a) =
      ap₂ (λ (k : ℕ) (q : Bool). pick (eqb k n) [] (pick q (g x ∷ ancestors see n (map_forest g b)) (ancestors see n (map_forest g a)))) (same x) (map-has g look see same n b)
      ∙ ap₂ (λ (u v : List B). pick (eqb (look x) n) [] (pick (has look n b) (g x ∷ u) v)) (map-ancestors n b) (map-ancestors n a)
      ∙ go (eqb (look x) n) (has look n b)
    where
      go : (p q : Bool) → pick p [] (pick q (g x ∷ map g (ancestors look n b)) (map g (ancestors look n a))) ≡ map g (pick p [] (pick q (x ∷ ancestors look n b) (ancestors look n a)))
      go true q = refl
      go false true = refl
      go false false = refl

  pub map-times : (n : ℕ) (f : Forest A) → times see n (map_forest g f) ≡ times look n f
  unfolding times map_forest
  map-times n forest.none = refl
  map-times n (node x b a) =
      ap (λ (k : ℕ). one (eqb k n) + (times see n (map_forest g b) + times see n (map_forest g a))) (same x)
      ∙ ap₂ (λ (u v : ℕ). one (eqb (look x) n) + (u + v)) (map-times n b) (map-times n a)

  module _ (group on : A → Bool) (group' on' : B → Bool) (same_kind : (x : A) → group' (g x) ≡ group x) (same_on : (x : A) → on' (g x) ≡ on x) where
    map_off : (l : List A) → first_off see on' (map g l) ≡ first_off look on l
    unfolding first_off
    map_off [] = refl
    map_off (x ∷ l) =
        ap₂ (λ (o : Bool) (k : ℕ). pick o (first_off see on' (map g l)) (some k)) (same_on x) (same x) ∙ ap (λ (y : Option ℕ). pick (on x) y (some (look x))) (map_off l)

    pub map-reason : (n : ℕ) (f : Forest A) → reason see group' on' n (map_forest g f) ≡ reason look group on n f
    map-reason n f =
        ap₂ (λ (y : Option B) (u : Option ℕ). first_true see group' on' y u (place_from1 n (order_tree see group' on' (map_forest g f)))) (map_node n f)
        (ap (λ (l : List B). first_off see on' l) (map-ancestors n f) ∙ map_off (ancestors look n f))
        ∙ ap (λ (l : List ℕ). first_true see group' on' (seen (node_of look n f)) (first_off look on (ancestors look n f)) (place_from1 n l))
        (map_order g look see same group on group' on' same_kind same_on f)
        ∙ go (node_of look n f)
      where
        go : (y : Option A) → first_true see group' on' (seen y) (first_off look on (ancestors look n f)) (place_from1 n (order_tree look group on f))
            ≡ first_true look group on y (first_off look on (ancestors look n f)) (place_from1 n (order_tree look group on f))
        go none = refl
        go (some x) = rw (same_kind x, same_on x)

-- a record as the plain tree knows it
pub view_kind : (slots : List Slot) (controls : List ℕ) (x : Node) → is_group_node (view_of slots controls x) ≡ is_group x
view_kind slots controls x = go (is_group x)
  where
    go : (b : Bool) → is_group_kind (pick b group (synth (definition_of slots x) (controls_of slots controls x))) ≡ b
    go true = refl
    go false = refl

pub view-reason : (slots : List Slot) (controls : List ℕ) (n : ℕ) (f : Forest Node) → plain_reason n (map_forest (view_of slots controls) f) ≡ reason key is_group is_on n f
view-reason slots controls n f =
    map-reason (view_of slots controls) key number_in (λ x. refl) is_group is_on is_group_node is_on_node (view_kind slots controls) (λ x. refl) n f

held-reason : (number : ℕ) (ws bs : List ℕ) → table_reason number (latest_in ws) (nodes_in ws) ≡ held_why number (decode ws bs)
unfolding decode
held-reason number ws bs =
    go (eqb number minus_one) (eqb (latest_in ws) 0)
  where
    own : (n : ℕ) → reason key is_group is_on n (build (nodes_in ws)) ≡ plain_reason n (held_tree (decode ws bs))
    own n = sym (view-reason (decode ws bs).slots (decode ws bs).controls n (build (nodes_in ws)))

    go : (p q : Bool) → pick p (pick q NoNode (reason key is_group is_on (latest_in ws) (build (nodes_in ws)))) (reason key is_group is_on number (build (nodes_in ws)))
        ≡ pick p (if_some (pick q none (some (latest_in ws))) (λ n. plain_reason n (held_tree (decode ws bs))) NoNode) (plain_reason number (held_tree (decode ws bs)))
    go true true = refl
    go true false = own (latest_in ws)
    go false q = own number

-- what is told, by the check
pub told_bad : (number : ℕ) (ws bs : List ℕ) → formed ws bs ≡ false → Err BadState ≡ why_told number ws bs
told_bad number ws bs h = rw h

pub told_because : (number : ℕ) (ws bs : List ℕ) (r : Reason) → formed ws bs ≡ true → r ≡ table_reason number (latest_in ws) (nodes_in ws) → Ok r ≡ why_told number ws bs
told_because number ws bs r h e = rw h (ap Ok (e ∙ held-reason number ws bs))
