-- Each edit of a plain tree commutes with a change of its items that keeps their numbers, and who stands where stays.
use Prim.{Unit}
use Rattle.std.specs.Prelude.{ℕ, Bool, ◌≡◌, eqb}
use Rattle.std.proofs.Math.Bool.{true, false}
use Rattle.std.proofs.Math.Path.{refl, ap, ap₂}
use Rattle.std.proofs.Common.{◌∙◌}
use mathlib.Core.List.{List, [], ◌∷◌, ◌++◌}
use Rattle.words.specs.Choice.{pick}
use Rattle.nodes.specs.Forest.{Forest, none, node, map_forest, beside, prune, has, subtree, below, edit, free, free_below, free_deep, change, put_head, put_tail, put_before, put_after, put_over, place_before, place_after, place_head, place_tail}
use Rattle.nodes.specs.Order.{order_tree}
use Rattle.nodes.specs.Structure.{no_node, tops, children, first_top, last_top, parent_in, previous_in, next, head, tail}

-- a property of every item
unfoldable pub Each : {A : Type 0} → (A → Type 0) → Forest A → Type 0
Each P none = Unit {0}
Each P (node x b a) = P x × Each P b × Each P a

module _ {A B : Type 0} (g : A → B) where
  pub map_each : (h : A → B) (f : Forest A) → Each (λ x. g x ≡ h x) f → map_forest g f ≡ map_forest h f
  unfolding map_forest Each
  map_each h none e = refl
  map_each h (node x b a) e =
      ap (λ (y : B). node y (map_forest g b) (map_forest g a)) e.0 ∙ ap₂ (λ (u v : Forest B). node (h x) u v) (map_each h b e.1) (map_each h a e.2)

  pub map-map : {C : Type 0} (h : B → C) (f : Forest A) → map_forest h (map_forest g f) ≡ map_forest (λ x. h (g x)) f
  unfolding map_forest
  map-map h none = refl
  map-map {C} h (node x b a) = ap₂ (λ (u v : Forest C). node (h (g x)) u v) (map-map h b) (map-map h a)

  pub map-beside : (f k : Forest A) → beside (map_forest g f) (map_forest g k) ≡ map_forest g (beside f k)
  unfolding map_forest beside
  map-beside none k = refl
  map-beside (node x b a) k = ap (λ (u : Forest B). node (g x) (map_forest g b) u) (map-beside a k)

  module _ (keep : A → Bool) (hold : B → Bool) (match : (x : A) → hold (g x) ≡ keep x) where
    pub map-prune : (f : Forest A) → prune hold (map_forest g f) ≡ map_forest g (prune keep f)
    unfolding map_forest prune
    map-prune none = refl
    map-prune (node x b a) =
        ap₂ (λ (u v : Forest B). pick (hold (g x)) (node (g x) u v) v) (map-prune b) (map-prune a)
        ∙ ap (λ (p : Bool). pick p (node (g x) (map_forest g (prune keep b)) (map_forest g (prune keep a))) (map_forest g (prune keep a))) (match x)
        ∙ go (keep x)
      where
        go : (p : Bool) → pick p (node (g x) (map_forest g (prune keep b)) (map_forest g (prune keep a))) (map_forest g (prune keep a)) ≡ map_forest g (pick p (node x (prune keep b) (prune keep a)) (prune keep a))
        go true = refl
        go false = refl

  -- an item's number is found by look before and by see after
  module _ (look : A → ℕ) (see : B → ℕ) (same : (x : A) → see (g x) ≡ look x) where
    found : (n : ℕ) (x : A) → eqb (see (g x)) n ≡ eqb (look x) n
    found n x = ap (λ (k : ℕ). eqb k n) (same x)

    pub map-has : (n : ℕ) (f : Forest A) → has see n (map_forest g f) ≡ has look n f
    unfolding map_forest has
    map-has n none = refl
    map-has n (node x b a) =
        ap (λ (p : Bool). pick p true (pick (has see n (map_forest g b)) true (has see n (map_forest g a)))) (found n x)
        ∙ ap₂ (λ (p q : Bool). pick (eqb (look x) n) true (pick p true q)) (map-has n b) (map-has n a)

    pub map-subtree : (n : ℕ) (f : Forest A) → subtree see n (map_forest g f) ≡ map_forest g (subtree look n f)
    unfolding map_forest subtree
    map-subtree n none = refl
    map-subtree n (node x b a) =
        ap₂ (λ (p q : Bool). pick p (node (g x) (map_forest g b) none) (pick q (subtree see n (map_forest g b)) (subtree see n (map_forest g a)))) (found n x) (map-has n b)
        ∙ ap₂ (λ (u v : Forest B). pick (eqb (look x) n) (node (g x) (map_forest g b) none) (pick (has look n b) u v)) (map-subtree n b) (map-subtree n a)
        ∙ go (eqb (look x) n) (has look n b)
      where
        go : (p q : Bool) → pick p (node (g x) (map_forest g b) none) (pick q (map_forest g (subtree look n b)) (map_forest g (subtree look n a)))
            ≡ map_forest g (pick p (node x b none) (pick q (subtree look n b) (subtree look n a)))
        go true q = refl
        go false true = refl
        go false false = refl

    -- who stands where
    pub map_below : (n : ℕ) (f : Forest A) → below see n (map_forest g f) ≡ map_forest g (below look n f)
    unfolding map_forest below
    map_below n none = refl
    map_below n (node x b a) =
        ap₂ (λ (p q : Bool). pick p (map_forest g b) (pick q (below see n (map_forest g b)) (below see n (map_forest g a)))) (found n x) (map-has n b)
        ∙ ap₂ (λ (u v : Forest B). pick (eqb (look x) n) (map_forest g b) (pick (has look n b) u v)) (map_below n b) (map_below n a)
        ∙ go (eqb (look x) n) (has look n b)
      where
        go : (p q : Bool) → pick p (map_forest g b) (pick q (map_forest g (below look n b)) (map_forest g (below look n a))) ≡ map_forest g (pick p b (pick q (below look n b) (below look n a)))
        go true q = refl
        go false true = refl
        go false false = refl

    pub map-tops : (f : Forest A) → tops see (map_forest g f) ≡ tops look f
    unfolding map_forest tops
    map-tops none = refl
    map-tops (node x b a) = ap₂ (λ (n : ℕ) (l : List ℕ). n ∷ l) (same x) (map-tops a)

    map_first : (f : Forest A) → first_top see (map_forest g f) ≡ first_top look f
    unfolding map_forest first_top
    map_first none = refl
    map_first (node x b a) = same x

    map_last : (p : ℕ) (f : Forest A) → last_top see p (map_forest g f) ≡ last_top look p f
    unfolding map_forest last_top
    map_last p none = refl
    map_last p (node x b a) = ap (λ (q : ℕ). last_top see q (map_forest g a)) (same x) ∙ map_last (look x) a

    pub map_parent : (p n : ℕ) (f : Forest A) → parent_in see p n (map_forest g f) ≡ parent_in look p n f
    unfolding map_forest parent_in
    map_parent p n none = refl
    map_parent p n (node x b a) =
        ap₂ (λ (i j : Bool). pick i p (pick j (parent_in see (see (g x)) n (map_forest g b)) (parent_in see p n (map_forest g a)))) (found n x) (map-has n b)
        ∙ ap₂ (λ (u v : ℕ). pick (eqb (look x) n) p (pick (has look n b) u v)) (ap (λ (q : ℕ). parent_in see q n (map_forest g b)) (same x) ∙ map_parent (look x) n b) (map_parent p n a)

    pub map-previous : (p n : ℕ) (f : Forest A) → previous_in see p n (map_forest g f) ≡ previous_in look p n f
    unfolding map_forest previous_in
    map-previous p n none = refl
    map-previous p n (node x b a) =
        ap₂ (λ (i j : Bool). pick i p (pick j (previous_in see no_node n (map_forest g b)) (previous_in see (see (g x)) n (map_forest g a)))) (found n x) (map-has n b)
        ∙ ap₂ (λ (u v : ℕ). pick (eqb (look x) n) p (pick (has look n b) u v)) (map-previous no_node n b) (ap (λ (q : ℕ). previous_in see q n (map_forest g a)) (same x) ∙ map-previous (look x) n a)

    pub map_next : (n : ℕ) (f : Forest A) → next see n (map_forest g f) ≡ next look n f
    unfolding map_forest next
    map_next n none = refl
    map_next n (node x b a) =
        ap₂ (λ (i j : Bool). pick i (first_top see (map_forest g a)) (pick j (next see n (map_forest g b)) (next see n (map_forest g a)))) (found n x) (map-has n b)
        ∙ ap (λ (q : ℕ). pick (eqb (look x) n) q (pick (has look n b) (next see n (map_forest g b)) (next see n (map_forest g a)))) (map_first a)
        ∙ ap₂ (λ (u v : ℕ). pick (eqb (look x) n) (first_top look a) (pick (has look n b) u v)) (map_next n b) (map_next n a)

    module _ (n : ℕ) (f : Forest A) where
      pub map-children : children see n (map_forest g f) ≡ children look n f
      map-children = ap (λ (k : Forest B). tops see k) (map_below n f) ∙ map-tops (below look n f)

      pub map_head : head see n (map_forest g f) ≡ head look n f
      map_head = ap (λ (k : Forest B). first_top see k) (map_below n f) ∙ map_first (below look n f)

      pub map_tail : tail see n (map_forest g f) ≡ tail look n f
      map_tail = ap (λ (k : Forest B). last_top see no_node k) (map_below n f) ∙ map_last no_node (below look n f)

    -- one law for every edit
    module _ (n : ℕ) (h : A → Forest A → Forest A → Forest A) (k : B → Forest B → Forest B → Forest B)
        (agree : (x : A) (b a : Forest A) → k (g x) (map_forest g b) (map_forest g a) ≡ map_forest g (h x b a)) where
      pub map-edit : (f : Forest A) → edit see n k (map_forest g f) ≡ map_forest g (edit look n h f)
      unfolding map_forest edit
      map-edit none = refl
      map-edit (node x b a) =
          ap₂ (λ (p q : Bool). pick p (k (g x) (map_forest g b) (map_forest g a)) (pick q (node (g x) (edit see n k (map_forest g b)) (map_forest g a)) (node (g x) (map_forest g b) (edit see n k (map_forest g a))))) (found n x) (map-has n b)
          ∙ ap₂ (λ (u v : Forest B). pick (eqb (look x) n) (k (g x) (map_forest g b) (map_forest g a)) (pick (has look n b) (node (g x) u (map_forest g a)) (node (g x) (map_forest g b) v))) (map-edit b) (map-edit a)
          ∙ go (eqb (look x) n) (has look n b)
        where
          go : (p q : Bool) → pick p (k (g x) (map_forest g b) (map_forest g a)) (pick q (node (g x) (map_forest g (edit look n h b)) (map_forest g a)) (node (g x) (map_forest g b) (map_forest g (edit look n h a))))
              ≡ map_forest g (pick p (h x b a) (pick q (node x (edit look n h b) a) (node x b (edit look n h a))))
          go true q = agree x b a
          go false true = refl
          go false false = refl

    module _ (n : ℕ) (f : Forest A) where
      pub map-free : free see n (map_forest g f) ≡ map_forest g (free look n f)
      map-free = map-edit n (λ x b a. a) (λ x b a. a) (λ x b a. refl) f

      pub map-free_below : free_below see n (map_forest g f) ≡ map_forest g (free_below look n f)
      unfolding map_forest
      map-free_below = map-edit n (λ x b a. node x none a) (λ x b a. node x none a) (λ x b a. refl) f

      pub map-free_deep : (keep : A → Bool) (hold : B → Bool) → ((x : A) → hold (g x) ≡ keep x) → free_deep see hold n (map_forest g f) ≡ map_forest g (free_deep look keep n f)
      unfolding map_forest
      map-free_deep keep hold match =
          map-edit n (λ x b a. node x (prune keep b) a) (λ x b a. node x (prune hold b) a) (λ x b a. ap (λ (u : Forest B). node (g x) u (map_forest g a)) (map-prune keep hold match b)) f

      pub map-change : (c : A → A) (e : B → B) → ((x : A) → e (g x) ≡ g (c x)) → change see n e (map_forest g f) ≡ map_forest g (change look n c f)
      unfolding map_forest
      map-change c e match = map-edit n (λ x b a. node (c x) b a) (λ x b a. node (e x) b a) (λ x b a. ap (λ (y : B). node y (map_forest g b) (map_forest g a)) (match x)) f

      -- a forest s put in
      module _ (s : Forest A) where
        pub map-put_head : put_head see (map_forest g s) n (map_forest g f) ≡ map_forest g (put_head look s n f)
        unfolding map_forest
        map-put_head = map-edit n (λ x b a. node x (beside s b) a) (λ x b a. node x (beside (map_forest g s) b) a) (λ x b a. ap (λ (u : Forest B). node (g x) u (map_forest g a)) (map-beside s b)) f

        pub map-put_tail : put_tail see (map_forest g s) n (map_forest g f) ≡ map_forest g (put_tail look s n f)
        unfolding map_forest
        map-put_tail = map-edit n (λ x b a. node x (beside b s) a) (λ x b a. node x (beside b (map_forest g s)) a) (λ x b a. ap (λ (u : Forest B). node (g x) u (map_forest g a)) (map-beside b s)) f

        pub map-put_before : put_before see (map_forest g s) n (map_forest g f) ≡ map_forest g (put_before look s n f)
        unfolding map_forest
        map-put_before = map-edit n (λ x b a. beside s (node x b a)) (λ x b a. beside (map_forest g s) (node x b a)) (λ x b a. map-beside s (node x b a)) f

        pub map-put_after : put_after see (map_forest g s) n (map_forest g f) ≡ map_forest g (put_after look s n f)
        unfolding map_forest
        map-put_after = map-edit n (λ x b a. node x b (beside s a)) (λ x b a. node x b (beside (map_forest g s) a)) (λ x b a. ap (λ (u : Forest B). node (g x) (map_forest g b) u) (map-beside s a)) f

        pub map_put_over : put_over see (map_forest g s) n (map_forest g f) ≡ map_forest g (put_over look s n f)
        map_put_over = map-edit n (λ x b a. beside s a) (λ x b a. beside (map_forest g s) a) (λ x b a. map-beside s a) f

    module _ (m n : ℕ) (f : Forest A) where
      pub map-place_head : place_head see m n (map_forest g f) ≡ map_forest g (place_head look m n f)
      map-place_head = ap₂ (λ (u v : Forest B). put_head see u n v) (map-subtree m f) (map-free m f) ∙ map-put_head n (free look m f) (subtree look m f)

      pub map-place_tail : place_tail see m n (map_forest g f) ≡ map_forest g (place_tail look m n f)
      map-place_tail = ap₂ (λ (u v : Forest B). put_tail see u n v) (map-subtree m f) (map-free m f) ∙ map-put_tail n (free look m f) (subtree look m f)

      pub map-place_before : place_before see m n (map_forest g f) ≡ map_forest g (place_before look m n f)
      map-place_before = ap₂ (λ (u v : Forest B). put_before see u n v) (map-subtree m f) (map-free m f) ∙ map-put_before n (free look m f) (subtree look m f)

      pub map-place_after : place_after see m n (map_forest g f) ≡ map_forest g (place_after look m n f)
      map-place_after = ap₂ (λ (u v : Forest B). put_after see u n v) (map-subtree m f) (map-free m f) ∙ map-put_after n (free look m f) (subtree look m f)

    -- the running order
    module _ (group on : A → Bool) (group' on' : B → Bool) (same_kind : (x : A) → group' (g x) ≡ group x) (same_on : (x : A) → on' (g x) ≡ on x) where
      pub map_order : (f : Forest A) → order_tree see group' on' (map_forest g f) ≡ order_tree look group on f
      unfolding map_forest order_tree
      map_order none = refl
      map_order (node x b a) =
          rw (same_on x, same_kind x, same x) (ap₂ (λ (u v : List ℕ). pick (on x) (pick (group x) u (look x ∷ u)) [] ++ v) (map_order b) (map_order a))
