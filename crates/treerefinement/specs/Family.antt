-- Every node descends from the root by one parent: children of the table are children of the plain tree, and a node's parent is the one group that
-- has it.
use Prim.{Unit, tt}
use Rattle.std.specs.Prelude.{ℕ, ◌+◌, ◌≤◌, ◌<◌, Bool, ltb}
use Rattle.std.proofs.Math.Bool.{true, false}
use Rattle.std.proofs.Math.Path.{◌≡◌, refl, ap, subst}
use Rattle.std.proofs.Common.{sym, ap₂, ◌∙◌}
use mathlib.Core.List.{List, [], ◌∷◌, ◌++◌, append_assoc, append-nil}
use native.Mathlib.Omega.{arith}
use Rattle.std.proofs.Math.Dec.{eqb}
use borrow.Author.Tests.{le-ltb, ltb-true, eq-eqb, ne_eqb, eqb-true}
use Rattle.words.specs.Choice.{pick, either}
use Rattle.nodes.specs.declared.Node.{Node}
use Rattle.nodes.specs.Place.{is_group, lives}
use Rattle.nodes.specs.Edit.{is_below}
use Rattle.nodes.specs.Forest.{Forest, none, node, flatten, has, subtree, below}
use Rattle.nodes.specs.Structure.{no_node, at_depth, children_of, parent_of, parent_in, parent, tops, children, listed}
use Rattle.nodes.specs.Formed.{rooted, apart}
use Rattle.treerefinement.specs.Flatten.{key, lives-has, run_tree}
use Rattle.treerefinement.specs.Leaves.{Leaves}
use Rattle.treerefinement.specs.Edits.{below_tree}
use Rattle.treerefinement.specs.Build.{build}
use Rattle.treerefinement.specs.Shape.{Tree, build-flatten, build_tree}
use Rattle.treerefinement.specs.Rooted.{tree_leaves}
use Rattle.treerefinement.specs.Tally.{one, tally, tally-append}
use Rattle.treerefinement.specs.Keep.{numbered, lives_some, apart_few}
use Rattle.treerefinement.specs.Latest.{group_named}
use Rattle.treerefinement.specs.Parent.{parent_tree}

-- children: what stands one deeper in the run
at-append : (d : ℕ) (a b : List Node) → at_depth d (a ++ b) ≡ at_depth d a ++ at_depth d b
unfolding at_depth
at-append d [] b = refl
at-append d (r ∷ a) b = ap (λ (l : List ℕ). pick (eqb r.depth d) (r.number ∷ l) l) (at-append d a b) ∙ go (eqb r.depth d)
  where
    go : (p : Bool) → pick p (r.number ∷ (at_depth d a ++ at_depth d b)) (at_depth d a ++ at_depth d b) ≡ pick p (r.number ∷ at_depth d a) (at_depth d a) ++ at_depth d b
    go true = refl
    go false = refl

at-deeper : (d e : ℕ) (f : Forest Node) → d < e → at_depth d (flatten e f) ≡ []
unfolding at_depth flatten
at-deeper d e none h = refl
at-deeper d e (node x b a) h =
    rw (ne_eqb e d (λ q. omega arith))
    (at-append d (flatten (e + 1) b) (flatten e a) ∙ ap₂ (λ (u v : List ℕ). u ++ v) (at-deeper d (e + 1) b (omega arith)) (at-deeper d e a h))

pub at-tops : (d : ℕ) (f : Forest Node) → at_depth d (flatten d f) ≡ tops key f
unfolding at_depth flatten tops
at-tops d none = refl
at-tops d (node x b a) =
    rw (eq-eqb d d refl)
    (ap (λ (l : List ℕ). x.number ∷ l)
    (at-append d (flatten (d + 1) b) (flatten d a) ∙ ap₂ (λ (u v : List ℕ). u ++ v) (at-deeper d (d + 1) b (omega arith)) (at-tops d a)))

children-subtree : (n : ℕ) (f : Forest Node) → at_depth 1 (flatten 0 (subtree key n f)) ≡ children key n f
unfolding subtree below at_depth flatten tops
children-subtree n none = refl
children-subtree n (node x b a) = go (eqb x.number n) (has key n b) (children-subtree n b) (children-subtree n a)
  where
    go : (p q : Bool) → at_depth 1 (flatten 0 (subtree key n b)) ≡ children key n b → at_depth 1 (flatten 0 (subtree key n a)) ≡ children key n a
        → at_depth 1 (flatten 0 (pick p (node x b none) (pick q (subtree key n b) (subtree key n a)))) ≡ tops key (pick p b (pick q (below key n b) (below key n a)))
    go true q i j = rw (ne_eqb 0 1 (λ q. omega arith)) (ap (λ (l : List Node). at_depth 1 l) (append-nil (flatten 1 b)) ∙ at-tops 1 b)
    go false true i j = i
    go false false i j = j

pub children_tree : (n : ℕ) (f : Forest Node) → children_of n (flatten 0 f) ≡ children key n f
children_tree n f = ap (λ (l : List Node). at_depth 1 l) (run_tree n f) ∙ children-subtree n f

-- the first node n of a forest is a group
unfoldable pub group_in : ℕ → Forest Node → Bool
group_in n none = false
group_in n (node x b a) = pick (eqb x.number n) (is_group x) (pick (has key n b) (group_in n b) (group_in n a))

group_past : (n d : ℕ) (f : Forest Node) (rest : List Node) → group_named n (flatten d f ++ rest) ≡ pick (has key n f) (group_in n f) (group_named n rest)
unfolding flatten has group_named group_in
group_past n d none rest = refl
group_past n d (node x b a) rest =
    ap (λ (q : Bool). pick (eqb x.number n) (is_group x) q)
    (ap (λ (l : List Node). group_named n l) (append_assoc (flatten (d + 1) b) (flatten d a) rest)
    ∙ group_past n (d + 1) b (flatten d a ++ rest)
    ∙ ap (λ (q : Bool). pick (has key n b) (group_in n b) q) (group_past n d a rest))
    ∙ go (eqb x.number n) (has key n b)
  where
    go : (p q : Bool) → pick p (is_group x) (pick q (group_in n b) (pick (has key n a) (group_in n a) (group_named n rest)))
        ≡ pick (pick p true (pick q true (has key n a))) (pick p (is_group x) (pick q (group_in n b) (group_in n a))) (group_named n rest)
    go true q = refl
    go false true = refl
    go false false = refl

-- distinct numbers of a forest
unfoldable pub Distinct : Forest Node → Type 0
Distinct none = Unit {0}
Distinct (node x b a) =
    (has key x.number b ≡ false) × (has key x.number a ≡ false) × ((m : ℕ) → has key m b ≡ true → has key m a ≡ false) × Distinct b × Distinct a

few : (m d : ℕ) (f : Forest Node) → ltb 0 (tally (numbered m) (flatten d f)) ≡ has key m f
few m d f = sym (lives_some m (flatten d f)) ∙ lives-has m d f

distinct_flatten : (d : ℕ) (f : Forest Node) → ((m : ℕ) → tally (numbered m) (flatten d f) ≤ 1) → Distinct f
unfolding Distinct flatten tally
distinct_flatten d none h = tt
distinct_flatten d (node x b a) h =
    let split : (m : ℕ) → tally (numbered m) (flatten (d + 1) b ++ flatten d a) ≡ tally (numbered m) (flatten (d + 1) b) + tally (numbered m) (flatten d a) = λ m. tally-append (numbered m) (flatten (d + 1) b) (flatten d a) in
    let first : one (numbered x.number x) ≡ 1 = ap one (eq-eqb x.number x.number refl) in (
      sym (few x.number (d + 1) b) ∙ le-ltb 0 (tally (numbered x.number) (flatten (d + 1) b)) (omega (arith, h x.number, split x.number)),
      sym (few x.number d a) ∙ le-ltb 0 (tally (numbered x.number) (flatten d a)) (omega (arith, h x.number, split x.number)),
      λ m e. (
          let more : 0 < tally (numbered m) (flatten (d + 1) b) = ltb-true 0 (tally (numbered m) (flatten (d + 1) b)) (few m (d + 1) b ∙ e) in
          sym (few m d a) ∙ le-ltb 0 (tally (numbered m) (flatten d a)) (omega (arith, h m, split m))),
      distinct_flatten (d + 1) b (λ m. omega (arith, h m, split m)),
      distinct_flatten d a (λ m. omega (arith, h m, split m)),
    )

-- another number than that of a node that is not m
other : (k m : ℕ) (f : Forest Node) → has key k f ≡ false → has key m f ≡ true → eqb k m ≡ false
other k m f e u = ne_eqb k m (λ q. let z : has key m f ≡ false = ap (λ (j : ℕ). has key j f) (sym q) ∙ e in clash u z)
  where
    clash : has key m f ≡ true → has key m f ≡ false → ⊥
    clash t f = let z : ◌≡◌ {A = ℕ} 0 1 = cc in omega arith

tops-has : (n : ℕ) (f : Forest Node) → listed n (tops key f) ≡ true → has key n f ≡ true
unfolding tops listed has
tops-has n none h = h
tops-has n (node x b a) h = go (eqb x.number n) (has key n b) h (tops-has n a)
  where
    go : (p q : Bool) → either p (listed n (tops key a)) ≡ true → (listed n (tops key a) ≡ true → has key n a ≡ true) → pick p true (pick q true (has key n a)) ≡ true
    go true q e ih = refl
    go false true e ih = refl
    go false false e ih = ih e

children-has : (n g : ℕ) (f : Forest Node) → listed n (children key g f) ≡ true → has key n f ≡ true
unfolding below has tops listed
children-has n g none h = h
children-has n g (node x b a) h = go (eqb x.number g) (has key g b) (eqb x.number n) h (children-has n g b) (children-has n g a)
  where
    right : (q : Bool) → pick q true true ≡ true
    right true = refl
    right false = refl

    go : (p q i : Bool) → listed n (tops key (pick p b (pick q (below key g b) (below key g a)))) ≡ true
        → (listed n (children key g b) ≡ true → has key n b ≡ true) → (listed n (children key g a) ≡ true → has key n a ≡ true)
        → pick i true (pick (has key n b) true (has key n a)) ≡ true
    go p q true e ib ia = refl
    go true q false e ib ia = rw (tops-has n b e)
    go false true false e ib ia = rw (ib e)
    go false false false e ib ia = rw (ia e) (right (has key n b))

-- q, the parent of n: n stands on top of the forest, whose parent is p, or among the children of the group q in it
data Above (p n q : ℕ) (f : Forest Node) : Type 0 where
  top : listed n (tops key f) ≡ true → q ≡ p → Above p n q f
  under : has key q f ≡ true → group_in q f ≡ true → listed n (children key q f) ≡ true → Above p n q f

-- the group q in a forest: its first node, or below that, or after it
module _ (p n : ℕ) (x : Node) (b a : Forest Node) where
  under_self : is_group x ≡ true → listed n (tops key b) ≡ true → Above p n x.number (node x b a)
  unfolding has group_in below
  under_self g s = let e = eq-eqb x.number x.number refl in under (rw e) (rw e g) (rw e s)

  under_below : (q : ℕ) → eqb x.number q ≡ false → has key q b ≡ true → group_in q b ≡ true → listed n (children key q b) ≡ true → Above p n q (node x b a)
  unfolding has group_in below
  under_below q e u g s = under (rw (e, u)) (rw (e, u) g) (rw (e, u) s)

  under_after : (q : ℕ) → eqb x.number q ≡ false → has key q b ≡ false → has key q a ≡ true → group_in q a ≡ true → listed n (children key q a) ≡ true → Above p n q (node x b a)
  unfolding has group_in below
  under_after q e u k g s = under (rw (e, u) k) (rw (e, u) g) (rw (e, u) s)

above : (p n : ℕ) (f : Forest Node) → Distinct f → Leaves f → has key n f ≡ true → Above p n (parent_in key p n f) f
unfolding Distinct Leaves has parent_in tops listed
above p n none d l h = top (cc) (cc)
above p n (node x b a) d l h =
    go (eqb x.number n) (has key n b) refl refl h
    (λ e. above x.number n b d.3 l.1 e)
    (λ e. above p n a d.4 l.2 e)
  where
    no : (q : Bool) → q ≡ true → q ≡ false → ⊥
    no q t f = let z : ◌≡◌ {A = ℕ} 0 1 = cc in omega arith

    kind : (g : Bool) → is_group x ≡ g → has key n b ≡ true → is_group x ≡ true
    kind true e u = e
    kind false e u = absurd (no (has key n b) u (ap (λ (k : Forest Node). has key n k) (l.0 e)))

    -- what is in a is not in b
    away : (q : ℕ) (i : Bool) → has key q b ≡ i → has key q a ≡ true → has key q b ≡ false
    away q true e u = absurd (no (has key q a) u (d.2 q e))
    away q false e u = e

    -- below x
    inner : has key n b ≡ true → (q : ℕ) → Above x.number n q b → Above p n q (node x b a)
    inner e q (top s u) = subst (λ (k : ℕ). Above p n k (node x b a)) (sym u) (under_self p n x b a (kind (is_group x) refl e) s)
    inner e q (under u g s) = under_below p n x b a q (other x.number q b d.0 u) u g s

    right : (i : Bool) → either i true ≡ true
    right true = refl
    right false = refl

    -- after x
    later : (q : ℕ) → Above p n q a → Above p n q (node x b a)
    later q (top s u) = top (rw s (right (eqb x.number n))) u
    later q (under u g s) = under_after p n x b a q (other x.number q a d.1 u) (away q (has key q b) refl u) u g s

    go : (i j : Bool) → eqb x.number n ≡ i → has key n b ≡ j → pick i true (pick j true (has key n a)) ≡ true
        → (has key n b ≡ true → Above x.number n (parent_in key x.number n b) b)
        → (has key n a ≡ true → Above p n (parent_in key p n a) a)
        → Above p n (pick i p (pick j (parent_in key x.number n b) (parent_in key p n a))) (node x b a)
    go true j e u t ib ia = top (rw e) refl
    go false true e u t ib ia = inner u (parent_in key x.number n b) (ib u)
    go false false e u t ib ia = later (parent_in key p n a) (ia t)

-- no other group has it
top_parent : (p n : ℕ) (f : Forest Node) → Distinct f → listed n (tops key f) ≡ true → parent_in key p n f ≡ p
unfolding Distinct parent_in tops listed
top_parent p n none d h = cc
top_parent p n (node x b a) d h = go (eqb x.number n) (has key n b) refl h (top_parent p n a d.4)
  where
    go : (i j : Bool) → has key n b ≡ j → either i (listed n (tops key a)) ≡ true → (listed n (tops key a) ≡ true → parent_in key p n a ≡ p)
        → pick i p (pick j (parent_in key x.number n b) (parent_in key p n a)) ≡ p
    go true j e t ih = refl
    go false true e t ih = let u : has key n a ≡ true = tops-has n a t in let v : has key n a ≡ false = d.2 n e in cc
    go false false e t ih = ih t

one-parent : (p n g : ℕ) (f : Forest Node) → Distinct f → listed n (children key g f) ≡ true → g ≡ parent_in key p n f
unfolding Distinct parent_in below tops listed
one-parent p n g none d h = cc
one-parent p n g (node x b a) d h =
    go (eqb x.number g) (has key g b) refl h (one-parent x.number n g b d.3) (one-parent p n g a d.4)
  where
    -- n lies below x, or after it
    lies_below : has key n b ≡ true → parent_in key x.number n b ≡ pick (eqb x.number n) p (pick (has key n b) (parent_in key x.number n b) (parent_in key p n a))
    lies_below u = let e = other x.number n b d.0 u in rw (e, u)

    away : (i : Bool) → has key n b ≡ i → has key n a ≡ true → has key n b ≡ false
    away true e u = let v : has key n a ≡ false = d.2 n e in cc
    away false e u = e

    lies_after : has key n a ≡ true → parent_in key p n a ≡ pick (eqb x.number n) p (pick (has key n b) (parent_in key x.number n b) (parent_in key p n a))
    lies_after u = let e = other x.number n a d.1 u in let v = away (has key n b) refl u in rw (e, v)

    go : (i j : Bool) → eqb x.number g ≡ i → listed n (tops key (pick i b (pick j (below key g b) (below key g a)))) ≡ true
        → (listed n (children key g b) ≡ true → g ≡ parent_in key x.number n b) → (listed n (children key g a) ≡ true → g ≡ parent_in key p n a)
        → g ≡ pick (eqb x.number n) p (pick (has key n b) (parent_in key x.number n b) (parent_in key p n a))
    go true j e t ib ia = sym (eqb-true x.number g e) ∙ sym (top_parent x.number n b d.3 t) ∙ lies_below (tops-has n b t)
    go false true e t ib ia = ib t ∙ lies_below (children-has n g b t)
    go false false e t ib ia = ia t ∙ lies_after (children-has n g a t)

-- of the table
module _ (t : List Node) (h : rooted t ≡ true) (d : apart t ≡ true) where
  tree : Tree (build t)
  tree = build_tree t h

  distinct : Distinct (build t)
  distinct = distinct_flatten 0 (build t) (λ m. subst (λ (l : List Node). tally (numbered m) l ≤ 1) (sym (build-flatten t h)) (apart_few t d m))

  there : (n : ℕ) → has key n (build t) ≡ lives n t
  there n = sym (lives-has n 0 (build t)) ∙ ap (λ (l : List Node). lives n l) (build-flatten t h)

  parents : (n : ℕ) → parent_of n t ≡ parent key n (build t)
  parents n = ap (λ (l : List Node). parent_of n l) (sym (build-flatten t h)) ∙ parent_tree n (build t)

  childrens : (g : ℕ) → children_of g t ≡ children key g (build t)
  childrens g = ap (λ (l : List Node). children_of g l) (sym (build-flatten t h)) ∙ children_tree g (build t)

  groups : (n : ℕ) → has key n (build t) ≡ true → group_named n t ≡ group_in n (build t)
  groups n e =
      ap (λ (l : List Node). group_named n l) (sym (build-flatten t h) ∙ sym (append-nil (flatten 0 (build t))))
      ∙ group_past n 0 (build t) []
      ∙ ap (λ (b : Bool). pick b (group_in n (build t)) (group_named n [])) e

  -- the root stands above all
  pub descends : (n : ℕ) → lives n t ≡ true → is_below n 0 t ≡ true
  unfolding subtree
  descends n e =
      ap (λ (l : List Node). is_below n 0 l) (sym (build-flatten t h))
      ∙ below_tree n 0 (build t)
      ∙ ap (λ (f : Forest Node). has key n f) (ap (λ (f : Forest Node). subtree key 0 f) tree.top ∙ rw (eq-eqb tree.root.number 0 tree.zero) (sym tree.top))
      ∙ there n
      ∙ e

  -- a node's parent lives, is a group, and has it among its children
  pub parent-group : (n : ℕ) → lives n t ≡ true → (n ≡ 0 → ⊥) → (lives (parent_of n t) t ≡ true) × (group_named (parent_of n t) t ≡ true) × (listed n (children_of (parent_of n t) t) ≡ true)
  unfolding tops listed
  parent-group n e k =
      subst (λ (q : ℕ). (lives q t ≡ true) × (group_named q t ≡ true) × (listed n (children_of q t) ≡ true)) (sym (parents n))
      (go (parent key n (build t)) (above no_node n (build t) distinct (tree_leaves (build t) tree) (there n ∙ e)))
    where
      alone : (b : Bool) → eqb tree.root.number n ≡ b → either b false ≡ true → ⊥
      alone true q u = k (sym (eqb-true tree.root.number n q) ∙ tree.zero)
      alone false q u = let z : ◌≡◌ {A = ℕ} 0 1 = cc in omega arith

      go : (q : ℕ) → Above no_node n q (build t) → (lives q t ≡ true) × (group_named q t ≡ true) × (listed n (children_of q t) ≡ true)
      go q (top s u) = absurd (alone (eqb tree.root.number n) refl (sym (ap (λ (f : Forest Node). listed n (tops key f)) tree.top) ∙ s))
      go q (under u g s) = (sym (there q) ∙ u, groups q u ∙ g, ap (λ (l : List ℕ). listed n l) (childrens q) ∙ s)

  -- and no other has
  pub one_parent_of : (n g : ℕ) → listed n (children_of g t) ≡ true → g ≡ parent_of n t
  one_parent_of n g s = one-parent no_node n g (build t) distinct (ap (λ (l : List ℕ). listed n l) (sym (childrens g)) ∙ s) ∙ sym (parents n)
