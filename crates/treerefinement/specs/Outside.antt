-- A node outside the subtrees that an edit of the plain tree adds, moves or frees stays there, below the same parent.
use Prim.{Unit, tt}
use Rattle.std.specs.Prelude.{ℕ, Bool}
use Rattle.std.proofs.Math.Bool.{true, false}
use Rattle.std.proofs.Math.Path.{◌≡◌, refl, sym, ap, ap₂}
use Rattle.std.proofs.Common.{◌∙◌, arith}
use Rattle.std.proofs.Math.Dec.{eqb}
use borrow.Author.Tests.{eqb-true, eq-eqb, ne_eqb}
use Rattle.words.specs.Choice.{pick}
use Rattle.nodes.specs.declared.Node.{Node}
use Rattle.nodes.specs.Place.{is_group}
use Rattle.nodes.specs.Edit.{with_run}
use Rattle.nodes.specs.Forest.{Forest, none, node, beside, prune, has, subtree, edit, free, free_below, free_deep, change, put_head, put_tail, put_before, put_after, put_over, place_before, place_after, place_head, place_tail}
use Rattle.nodes.specs.Structure.{parent_in}
use Rattle.treerefinement.specs.Flatten.{key, neither}
use Rattle.treerefinement.specs.Leaves.{Leaves, NoSynth, leaves_subtree}
use Rattle.treerefinement.specs.Parent.{parent_absent}

module _ (m : ℕ) where
  -- m is in both forests or in none, with the same parent
  pub record Stays (after before : Forest Node) : Type 0 where
    pub there : has key m after ≡ has key m before
    pub parents : (p : ℕ) → parent_in key p m after ≡ parent_in key p m before

  stays-refl : (f : Forest Node) → Stays f f
  stays-refl f = record { there = refl; parents = λ p. refl }

  pub stays_trans : {f g k : Forest Node} → Stays f g → Stays g k → Stays f k
  stays_trans s u = record { there = s.there ∙ u.there; parents = λ p. s.parents p ∙ u.parents p }

  stays_below : (x : Node) (b c a : Forest Node) → Stays c b → Stays (node x c a) (node x b a)
  unfolding has parent_in
  stays_below x b c a s = record {
    there = ap (λ (q : Bool). pick (eqb x.number m) true (pick q true (has key m a))) s.there;
    parents = λ p. ap₂ (λ (q : Bool) (k : ℕ). pick (eqb x.number m) p (pick q k (parent_in key p m a))) s.there (s.parents x.number);
  }

  stays_after : (x : Node) (b a c : Forest Node) → Stays c a → Stays (node x b c) (node x b a)
  unfolding has parent_in
  stays_after x b a c s = record {
    there = ap (λ (q : Bool). pick (eqb x.number m) true (pick (has key m b) true q)) s.there;
    parents = λ p. ap (λ (k : ℕ). pick (eqb x.number m) p (pick (has key m b) (parent_in key x.number m b) k)) (s.parents p);
  }

  -- neither has it
  stays_out : (f g : Forest Node) → has key m f ≡ false → has key m g ≡ false → Stays f g
  stays_out f g e u = record { there = e ∙ sym u; parents = λ p. parent_absent key p m f e ∙ sym (parent_absent key p m g u) }

  -- a node that is not m, with m not below it
  stays-drop : (x : Node) (b a : Forest Node) → has key m (node x b none) ≡ false → Stays a (node x b a)
  unfolding has parent_in
  stays-drop x b a h =
      let w = neither (eqb x.number m) (has key m b) false h in
      record { there = rw (w.0, w.1); parents = λ p. rw (w.0, w.1) }

  -- a forest without it put in before or behind
  stays-beside : (g f : Forest Node) → has key m g ≡ false → Stays (beside g f) f
  unfolding has beside
  stays-beside none f h = stays-refl f
  stays-beside (node x b a) f h =
      let w = neither (eqb x.number m) (has key m b) (has key m a) h in
      stays_trans (sym-stays (stays-drop x b (beside a f) (rw (w.0, w.1)))) (stays-beside a f w.2)
    where
      sym-stays : {f g : Forest Node} → Stays f g → Stays g f
      sym-stays s = record { there = sym s.there; parents = λ p. sym (s.parents p) }

  stays_behind : (f g : Forest Node) → has key m g ≡ false → Stays (beside f g) f
  unfolding has beside
  stays_behind none g h = stays_out g none h refl
  stays_behind (node x b a) g h = stays_after x b a (beside a g) (stays_behind a g h)

  -- synths freed, and m is none
  stays-prune : (f : Forest Node) → NoSynth m f → Leaves f → Stays (prune is_group f) f
  unfolding prune NoSynth Leaves has
  stays-prune none s l = stays-refl none
  stays-prune (node x b a) s l = go (is_group x) refl (stays-prune b s.1 l.1) (stays-prune a s.2 l.2)
    where
      other : is_group x ≡ false → eqb x.number m ≡ false
      other e = ne_eqb x.number m (λ q. let t : is_group x ≡ true = s.0 q in let z : ◌≡◌ {A = ℕ} 0 1 = cc in omega arith)

      empty : is_group x ≡ false → has key m b ≡ false
      empty e = ap (λ (k : Forest Node). has key m k) (l.0 e)

      go : (g : Bool) → is_group x ≡ g → Stays (prune is_group b) b → Stays (prune is_group a) a → Stays (pick g (node x (prune is_group b) (prune is_group a)) (prune is_group a)) (node x b a)
      go true e i j = stays_trans (stays_below x b (prune is_group b) (prune is_group a) i) (stays_after x b a (prune is_group a) j)
      go false e i j = stays_trans j (stays-drop x b a (rw (other e, empty e)))

  -- one law for every edit: K is what is known of the node n with all below it
  module _ (n : ℕ) (K : Forest Node → Type 0) (h : Node → Forest Node → Forest Node → Forest Node)
      (agree : (x : Node) (b a : Forest Node) → x.number ≡ n → K (node x b none) → Stays (h x b a) (node x b a)) where
    stays-edit : (f : Forest Node) → K (subtree key n f) → Stays (edit key n h f) f
    unfolding edit subtree
    stays-edit none k = stays-refl none
    stays-edit (node x b a) k = go (eqb x.number n) (has key n b) refl k (stays-edit b) (stays-edit a)
      where
        go : (p q : Bool) → eqb x.number n ≡ p → K (pick p (node x b none) (pick q (subtree key n b) (subtree key n a)))
            → (K (subtree key n b) → Stays (edit key n h b) b) → (K (subtree key n a) → Stays (edit key n h a) a)
            → Stays (pick p (h x b a) (pick q (node x (edit key n h b) a) (node x b (edit key n h a)))) (node x b a)
        go true q e u i j = agree x b a (eqb-true x.number n e) u
        go false true e u i j = stays_below x b (edit key n h b) a (i u)
        go false false e u i j = stays_after x b a (edit key n h a) (j u)

  module _ (n : ℕ) (f : Forest Node) where
    pub stays-free : has key m (subtree key n f) ≡ false → Stays (free key n f) f
    stays-free k = stays-edit n (λ g. has key m g ≡ false) (λ x b a. a) (λ x b a e u. stays-drop x b a u) f k

    -- all below n freed: m is outside, or n itself
    pub stays-free_below : has key m (subtree key n f) ≡ false → Stays (free_below key n f) f
    unfolding has
    stays-free_below k =
        stays-edit n (λ g. has key m g ≡ false) (λ x b a. node x none a) (λ x b a e u.
        stays_below x b none a (stays_out none b refl (neither (eqb x.number m) (has key m b) false u).1)) f k

    pub stays-free_below_self : m ≡ n → Stays (free_below key n f) f
    unfolding has parent_in
    stays-free_below_self q =
        stays-edit n (λ g. Unit {0}) (λ x b a. node x none a) (λ x b a e u.
        let here : eqb x.number m ≡ true = eq-eqb x.number m (e ∙ sym q) in
        record { there = rw here; parents = λ p. rw here }) f tt

    pub stays-free_deep : NoSynth m (subtree key n f) → Leaves f → Stays (free_deep key is_group n f) f
    unfolding NoSynth Leaves
    stays-free_deep s l =
        stays-edit n (λ g. NoSynth m g × Leaves g) (λ x b a. node x (prune is_group b) a) (λ x b a e u.
        stays_below x b (prune is_group b) a (stays-prune b u.0.1 u.1.1)) f (s, leaves_subtree n f l)

    pub stays_run : (flag : ℕ) → Stays (change key n (with_run flag) f) f
    unfolding has parent_in
    stays_run flag = stays-edit n (λ g. Unit {0}) (λ x b a. node (with_run flag x) b a) (λ x b a e u. record { there = refl; parents = λ p. refl }) f tt

    -- a forest without m put in
    module _ (g : Forest Node) (new : has key m g ≡ false) where
      anywhere : (h : Node → Forest Node → Forest Node → Forest Node) → ((x : Node) (b a : Forest Node) → Stays (h x b a) (node x b a)) → Stays (edit key n h f) f
      anywhere h agree = stays-edit n (λ g. Unit {0}) h (λ x b a e u. agree x b a) f tt

      pub stays-put_head : Stays (put_head key g n f) f
      stays-put_head = anywhere (λ x b a. node x (beside g b) a) (λ x b a. stays_below x b (beside g b) a (stays-beside g b new))

      pub stays-put_tail : Stays (put_tail key g n f) f
      stays-put_tail = anywhere (λ x b a. node x (beside b g) a) (λ x b a. stays_below x b (beside b g) a (stays_behind b g new))

      pub stays-put_before : Stays (put_before key g n f) f
      stays-put_before = anywhere (λ x b a. beside g (node x b a)) (λ x b a. stays-beside g (node x b a) new)

      pub stays-put_after : Stays (put_after key g n f) f
      stays-put_after = anywhere (λ x b a. node x b (beside g a)) (λ x b a. stays_after x b a (beside g a) (stays-beside g a new))

      pub stays_put_over : has key m (subtree key n f) ≡ false → Stays (put_over key g n f) f
      stays_put_over k =
          stays-edit n (λ g. has key m g ≡ false) (λ x b a. beside g a) (λ x b a e u. stays_trans (stays-beside g a new) (stays-drop x b a u)) f k

  -- the node c moved, and m is outside it
  module _ (c n : ℕ) (f : Forest Node) (out : has key m (subtree key c f) ≡ false) where
    pub stays-place_head : Stays (place_head key c n f) f
    stays-place_head = stays_trans (stays-put_head n (free key c f) (subtree key c f) out) (stays-free c f out)

    pub stays-place_tail : Stays (place_tail key c n f) f
    stays-place_tail = stays_trans (stays-put_tail n (free key c f) (subtree key c f) out) (stays-free c f out)

    pub stays-place_before : Stays (place_before key c n f) f
    stays-place_before = stays_trans (stays-put_before n (free key c f) (subtree key c f) out) (stays-free c f out)

    pub stays-place_after : Stays (place_after key c n f) f
    stays-place_after = stays_trans (stays-put_after n (free key c f) (subtree key c f) out) (stays-free c f out)
