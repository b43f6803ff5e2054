-- Each edit that a command makes keeps the root alone on top, with synths as leaves: of the plain tree, and so of the table.
use Prim.{tt}
use Rattle.std.specs.Prelude.{ℕ, ◌+◌, Bool, true, ◌≡◌, List, [], ◌∷◌, ◌++◌}
use Rattle.std.proofs.Math.Bool.{false}
use Rattle.std.proofs.Math.Path.{refl, ap}
use Rattle.std.proofs.Common.{sym, subst, ◌∙◌, append_assoc, append-nil, arith}
use Rattle.std.proofs.Math.Dec.{eqb}
use borrow.Author.Tests.{eqb-true, eqb-false, ne_eqb, eq-eqb}
use Rattle.words.specs.Choice.{pick}
use Rattle.words.specs.ChoiceLaws.{either_false}
use Rattle.nodes.specs.declared.Node.{Node}
use Rattle.nodes.specs.Place.{is_group}
use Rattle.nodes.specs.Edit.{level, with_run, cut, cut_below, deep_free, set_run, add_head, add_tail, add_before, add_after, add_over, move_before, move_after, move_head, move_tail}
use Rattle.nodes.specs.Forest.{Forest, none, node, flatten, beside, prune, single, has, subtree, edit, free, free_below, free_deep, change, put_head, put_tail, put_before, put_after, put_over, place_before, place_after, place_head, place_tail}
use Rattle.nodes.specs.Formed.{rooted, synth_lives}
use Rattle.treerefinement.specs.Flatten.{key}
use Rattle.treerefinement.specs.Leaves.{Leaves, NoSynth, leaves_subtree, nosynth_free, leaves_free, leaves_free_below, leaves_free_deep, leaves_run, leaves_put_head, leaves_put_tail, leaves_put_before, leaves_put_after, leaves_put_over}
use Rattle.treerefinement.specs.Edits.{cut_tree, cut_below_tree, deep_free_tree, set_run_tree, add_head_tree, add_tail_tree, add_before_tree, add_after_tree, add_over_tree, move_before_tree, move_after_tree, move_head_tree, move_tail_tree}
use Rattle.treerefinement.specs.Build.{build}
use Rattle.treerefinement.specs.Shape.{Tree, build-flatten, build_tree, flatten-rooted}

pub tree_leaves : (f : Forest Node) → Tree f → Leaves f
unfolding Leaves
tree_leaves f t = subst (λ (k : Forest Node). Leaves k) (sym t.top) (λ e. absurd (clash e), t.leaves, tt)
  where
    clash : is_group t.root ≡ false → ⊥
    clash e = let g : is_group t.root ≡ true = t.group in let z : ◌≡◌ {A = ℕ} 0 1 = cc in omega arith

-- a root group numbered 0 on top of leaves
crown : (f : Forest Node) (r : Node) (b : Forest Node) → f ≡ node r b none → r.number ≡ 0 → is_group r ≡ true → Leaves f → Tree f
unfolding Leaves
crown f r b e z g l = record { root = r; below = b; top = e; zero = z; group = g; leaves = (subst (λ (k : Forest Node). Leaves k) e l).1 }

module _ (f : Forest Node) (t : Tree f) (n : ℕ) where
  -- an edit at another node than the root
  tree_other : (h : Node → Forest Node → Forest Node → Forest Node) → eqb n 0 ≡ false → Leaves (edit key n h f) → Tree (edit key n h f)
  unfolding edit
  tree_other h e l = go (has key n t.below) refl
    where
      other : eqb t.root.number n ≡ false
      other = ap (λ (j : ℕ). eqb j n) t.zero ∙ ne_eqb 0 n (λ q. eqb-false n 0 e (sym q))

      go : (q : Bool) → has key n t.below ≡ q → Tree (edit key n h f)
      go true q = crown (edit key n h f) t.root (edit key n h t.below) (ap (λ (k : Forest Node). edit key n h k) t.top ∙ rw (other, q)) t.zero t.group l
      go false q = crown (edit key n h f) t.root t.below (ap (λ (k : Forest Node). edit key n h k) t.top ∙ rw (other, q)) t.zero t.group l

  -- an edit of a node's own record and of what is below it
  tree_inner : (c : Node → Node) (k : Forest Node → Forest Node) → ((x : Node) → (c x).number ≡ x.number) → ((x : Node) → is_group (c x) ≡ is_group x)
      → Leaves (edit key n (λ x b a. node (c x) (k b) a) f) → Tree (edit key n (λ x b a. node (c x) (k b) a) f)
  unfolding edit
  tree_inner c k same kind l = go (eqb n 0) refl
    where
      h : Node → Forest Node → Forest Node → Forest Node
      h = λ x b a. node (c x) (k b) a

      go : (p : Bool) → eqb n 0 ≡ p → Tree (edit key n h f)
      go false e = tree_other h e l
      go true e =
          let here : eqb t.root.number n ≡ true = eq-eqb t.root.number n (t.zero ∙ sym (eqb-true n 0 e)) in
          crown (edit key n h f) (c t.root) (k t.below) (ap (λ (g : Forest Node). edit key n h g) t.top ∙ rw here) (same t.root ∙ t.zero) (kind t.root ∙ t.group) l

  pub tree_free : eqb n 0 ≡ false → Tree (free key n f)
  tree_free e = tree_other (λ x b a. a) e (leaves_free n f (tree_leaves f t))

  pub tree_free_below : Tree (free_below key n f)
  tree_free_below = tree_inner (λ x. x) (λ b. none) (λ x. refl) (λ x. refl) (leaves_free_below n f (tree_leaves f t))

  pub tree_free_deep : Tree (free_deep key is_group n f)
  tree_free_deep = tree_inner (λ x. x) (λ b. prune is_group b) (λ x. refl) (λ x. refl) (leaves_free_deep n f (tree_leaves f t))

  pub tree_run : (flag : ℕ) → Tree (change key n (with_run flag) f)
  tree_run flag = tree_inner (with_run flag) (λ b. b) (λ x. refl) (λ x. refl) (leaves_run n f (tree_leaves f t) flag)

  -- a forest put in
  module _ (g : Forest Node) (m : Leaves g) where
    pub tree_put_head : NoSynth n f → Tree (put_head key g n f)
    tree_put_head s = tree_inner (λ x. x) (λ b. beside g b) (λ x. refl) (λ x. refl) (leaves_put_head n f (tree_leaves f t) g m s)

    pub tree_put_tail : NoSynth n f → Tree (put_tail key g n f)
    tree_put_tail s = tree_inner (λ x. x) (λ b. beside b g) (λ x. refl) (λ x. refl) (leaves_put_tail n f (tree_leaves f t) g m s)

    pub tree_put_before : eqb n 0 ≡ false → Tree (put_before key g n f)
    tree_put_before e = tree_other (λ x b a. beside g (node x b a)) e (leaves_put_before n f (tree_leaves f t) g m)

    pub tree_put_after : eqb n 0 ≡ false → Tree (put_after key g n f)
    tree_put_after e = tree_other (λ x b a. node x b (beside g a)) e (leaves_put_after n f (tree_leaves f t) g m)

    pub tree_put_over : eqb n 0 ≡ false → Tree (put_over key g n f)
    tree_put_over e = tree_other (λ x b a. beside g a) e (leaves_put_over n f (tree_leaves f t) g m)

-- moves of another node than the root
module _ (f : Forest Node) (t : Tree f) (m n : ℕ) (e : eqb m 0 ≡ false) where
  moved : Leaves (subtree key m f)
  moved = leaves_subtree m f (tree_leaves f t)

  pub tree_place_head : NoSynth n f → Tree (place_head key m n f)
  tree_place_head s = tree_put_head (free key m f) (tree_free f t m e) n (subtree key m f) moved (nosynth_free n m f s)

  pub tree_place_tail : NoSynth n f → Tree (place_tail key m n f)
  tree_place_tail s = tree_put_tail (free key m f) (tree_free f t m e) n (subtree key m f) moved (nosynth_free n m f s)

  pub tree_place_before : eqb n 0 ≡ false → Tree (place_before key m n f)
  tree_place_before q = tree_put_before (free key m f) (tree_free f t m e) n (subtree key m f) moved q

  pub tree_place_after : eqb n 0 ≡ false → Tree (place_after key m n f)
  tree_place_after q = tree_put_after (free key m f) (tree_free f t m e) n (subtree key m f) moved q

-- no synth of the table has the number n, so none of the tree
synth_past : (n d : ℕ) (f : Forest Node) (rest : List Node) → synth_lives n (flatten d f ++ rest) ≡ false → NoSynth n f × (synth_lives n rest ≡ false)
unfolding flatten synth_lives NoSynth
synth_past n d none rest h = (tt, h)
synth_past n d (node x b a) rest h =
    let w = either_false (pick (is_group x) false (eqb x.number n)) (synth_lives n ((flatten (d + 1) b ++ flatten d a) ++ rest)) h in
    let u = synth_past n (d + 1) b (flatten d a ++ rest) (rw append_assoc at w.1) in
    let v = synth_past n d a rest u.1 in
    ((kind (is_group x) w.0, u.0, v.0), v.1)
  where
    kind : (p : Bool) → pick p false (eqb x.number n) ≡ false → x.number ≡ n → p ≡ true
    kind true e q = refl
    kind false e q = absurd (eqb-false x.number n e q)

pub nosynth_tree : (n : ℕ) (f : Forest Node) → synth_lives n (flatten 0 f) ≡ false → NoSynth n f
nosynth_tree n f h = (synth_past n 0 f [] (rw append-nil h)).0

-- the table
module _ (t : List Node) (h : rooted t ≡ true) where
  -- an edit of the table that is an edit of the tree
  carry : (E : List Node → List Node) (e : Forest Node → Forest Node) → E (flatten 0 (build t)) ≡ flatten 0 (e (build t)) → Tree (e (build t)) → rooted (E t) ≡ true
  carry E e same u = ap (λ (l : List Node). rooted (E l)) (sym (build-flatten t h)) ∙ ap rooted same ∙ flatten-rooted (e (build t)) u

  tree : Tree (build t)
  tree = build_tree t h

  module _ (n : ℕ) where
    group : synth_lives n t ≡ false → NoSynth n (build t)
    group s = nosynth_tree n (build t) (ap (λ (l : List Node). synth_lives n l) (build-flatten t h) ∙ s)

    pub rooted_cut : eqb n 0 ≡ false → rooted (cut n t) ≡ true
    rooted_cut e = carry (λ l. cut n l) (λ f. free key n f) (cut_tree n (build t)) (tree_free (build t) tree n e)

    pub rooted-cut_below : rooted (cut_below n t) ≡ true
    rooted-cut_below = carry (λ l. cut_below n l) (λ f. free_below key n f) (cut_below_tree n (build t)) (tree_free_below (build t) tree n)

    pub rooted-deep_free : rooted (deep_free n t) ≡ true
    rooted-deep_free = carry (λ l. deep_free n l) (λ f. free_deep key is_group n f) (deep_free_tree n (build t) (tree_leaves (build t) tree)) (tree_free_deep (build t) tree n)

    pub rooted-set_run : (flag : ℕ) → rooted (set_run n flag t) ≡ true
    rooted-set_run flag = carry (λ l. set_run n flag l) (λ f. change key n (with_run flag) f) (set_run_tree n flag (build t)) (tree_run (build t) tree n flag)

    -- the records xs of a forest g, at depths from 0 on
    module _ (g : Forest Node) (xs : List Node) (laid : xs ≡ flatten 0 g) (m : Leaves g) where
      put : (add : List Node → List Node → List Node) (e : Forest Node → Forest Node) → add (flatten 0 g) (flatten 0 (build t)) ≡ flatten 0 (e (build t)) → Tree (e (build t)) → rooted (add xs t) ≡ true
      put add e same u = carry (λ l. add xs l) e (ap (λ (ys : List Node). add ys (flatten 0 (build t))) laid ∙ same) u

      pub rooted-add_head : synth_lives n t ≡ false → rooted (add_head xs n t) ≡ true
      rooted-add_head s = put (λ xs l. add_head xs n l) (λ f. put_head key g n f) (add_head_tree g n (build t)) (tree_put_head (build t) tree n g m (group s))

      pub rooted-add_tail : synth_lives n t ≡ false → rooted (add_tail xs n t) ≡ true
      rooted-add_tail s = put (λ xs l. add_tail xs n l) (λ f. put_tail key g n f) (add_tail_tree g n (build t)) (tree_put_tail (build t) tree n g m (group s))

      pub rooted-add_before : eqb n 0 ≡ false → rooted (add_before xs n t) ≡ true
      rooted-add_before e = put (λ xs l. add_before xs n l) (λ f. put_before key g n f) (add_before_tree g n (build t)) (tree_put_before (build t) tree n g m e)

      pub rooted-add_after : eqb n 0 ≡ false → rooted (add_after xs n t) ≡ true
      rooted-add_after e = put (λ xs l. add_after xs n l) (λ f. put_after key g n f) (add_after_tree g n (build t)) (tree_put_after (build t) tree n g m e)

      pub rooted-add_over : eqb n 0 ≡ false → rooted (add_over xs n t) ≡ true
      rooted-add_over e = put (λ xs l. add_over xs n l) (λ f. put_over key g n f) (add_over_tree g n (build t)) (tree_put_over (build t) tree n g m e)

  module _ (m n : ℕ) (q : eqb m 0 ≡ false) where
    pub rooted-move_head : synth_lives n t ≡ false → rooted (move_head m n t) ≡ true
    rooted-move_head s = carry (λ l. move_head m n l) (λ f. place_head key m n f) (move_head_tree m n (build t)) (tree_place_head (build t) tree m n q (group n s))

    pub rooted-move_tail : synth_lives n t ≡ false → rooted (move_tail m n t) ≡ true
    rooted-move_tail s = carry (λ l. move_tail m n l) (λ f. place_tail key m n f) (move_tail_tree m n (build t)) (tree_place_tail (build t) tree m n q (group n s))

    pub rooted-move_before : eqb n 0 ≡ false → rooted (move_before m n t) ≡ true
    rooted-move_before e = carry (λ l. move_before m n l) (λ f. place_before key m n f) (move_before_tree m n (build t)) (tree_place_before (build t) tree m n q e)

    pub rooted-move_after : eqb n 0 ≡ false → rooted (move_after m n t) ≡ true
    rooted-move_after e = carry (λ l. move_after m n l) (λ f. place_after key m n f) (move_after_tree m n (build t)) (tree_place_after (build t) tree m n q e)

-- one new node, at depth 0, is a forest laid out
pub single-flatten : (x : Node) → x.depth ≡ 0 → x ∷ [] ≡ flatten 0 (single x)
unfolding flatten
single-flatten x h = ap (λ (d : ℕ). level d x ∷ []) h
