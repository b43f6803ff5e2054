-- What an edit of the table does not touch stays as it was: the records of untouched nodes, their order among themselves, and their parents.
use Prim.{tt}
use Rattle.std.specs.Prelude.{ℕ, Bool, true, false, ◌≡◌, refl, List, [], ◌∷◌, eqb}
use Rattle.std.proofs.Common.{sym, ap, ap₂, ◌∙◌, eqb-true}
use Rattle.std.proofs.lemmas.Bool.{eqb-false}
use Rattle.words.specs.Choice.{pick}
use Rattle.nodes.specs.declared.Node.{Node}
use Rattle.nodes.specs.Place.{is_group, lives}
use Rattle.nodes.specs.Edit.{with_run, run_of, is_below, cut, cut_below, deep_free, set_run, add_head, add_tail, add_before, add_after, add_over, move_before, move_after, move_head, move_tail}
use Rattle.nodes.specs.Structure.{no_node, parent_of}
use Rattle.nodes.specs.Forest.{Forest, none, node, flatten, has, subtree, free, free_below, free_deep, change, put_head, put_tail, put_before, put_after, put_over, place_before, place_after, place_head, place_tail}
use Rattle.nodes.specs.Formed.{rooted, apart, synth_lives}
use Rattle.treerefinement.specs.Flatten.{key, lives-has, neither}
use Rattle.treerefinement.specs.Leaves.{Leaves, NoSynth}
use Rattle.treerefinement.specs.Edits.{below_tree, cut_tree, cut_below_tree, deep_free_tree, set_run_tree, add_head_tree, add_tail_tree, add_before_tree, add_after_tree, add_over_tree, move_before_tree, move_after_tree, move_head_tree, move_tail_tree}
use Rattle.treerefinement.specs.Build.{build}
use Rattle.treerefinement.specs.Shape.{build-flatten, build_tree}
use Rattle.treerefinement.specs.Rooted.{tree_leaves, nosynth_tree}
use Rattle.treerefinement.specs.Parent.{parent_tree}
use Rattle.treerefinement.specs.Outside.{Stays, stays-free, stays-free_below, stays-free_below_self, stays-free_deep, stays_run, stays-put_head, stays-put_tail, stays-put_before, stays-put_after, stays_put_over, stays-place_head, stays-place_tail, stays-place_before, stays-place_after}
use Rattle.treerefinement.specs.Left.{left, Covers, left_cut, left_cut_below, left_deep_free, left_set_run, left_add_head, left_add_tail, left_add_before, left_add_after, left_add_over, left_move_head, left_move_tail, left_move_before, left_move_after}

-- what the test does not touch
pub record Untouched (test : ℕ → Bool) (after before : List Node) : Type 0 where
  pub records : left test after ≡ left test before
  pub parents : (m : ℕ) → test m ≡ false → parent_of m after ≡ parent_of m before

-- a record with its parent
pub record Entry : Type 0 where
  pub self : Node
  pub parent : ℕ

unfoldable pub entries : List Node → List Node → List Entry
entries t [] = []
entries t (r ∷ l) = record { self = r; parent = parent_of r.number t } ∷ entries t l

-- as one list
entries-left : (test : ℕ → Bool) (after before : List Node) → ((m : ℕ) → test m ≡ false → parent_of m after ≡ parent_of m before) → (l : List Node) → entries after (left test l) ≡ entries before (left test l)
unfolding entries left
entries-left test after before g [] = refl
entries-left test after before g (r ∷ l) = step (test r.number) refl (entries-left test after before g l)
  where
    step : (b : Bool) → test r.number ≡ b → entries after (left test l) ≡ entries before (left test l)
        → entries after (pick b (left test l) (r ∷ left test l)) ≡ entries before (pick b (left test l) (r ∷ left test l))
    step true e ih = ih
    step false e ih = ap₂ (λ (p : ℕ) (k : List Entry). record { self = r; parent = p } ∷ k) (g r.number e) ih

pub untouched_entries : {test : ℕ → Bool} {after before : List Node} → Untouched test after before → entries after (left test after) ≡ entries before (left test before)
untouched_entries {test} {after} {before} u = ap (λ (l : List Node). entries after l) u.records ∙ entries-left test after before u.parents before

-- what is not touched is not among what is
apart_from : (test : ℕ → Bool) (m : ℕ) (b : Bool) → (b ≡ true → test m ≡ true) → test m ≡ false → b ≡ false
apart_from test m true c e = let q : test m ≡ true = c refl in cc
apart_from test m false c e = refl

nosynth_out : (m : ℕ) (f : Forest Node) → has key m f ≡ false → NoSynth m f
unfolding has NoSynth
nosynth_out m none h = tt
nosynth_out m (node x b a) h =
    let w = neither (eqb x.number m) (has key m b) (has key m a) h in
    (λ e. absurd (eqb-false x.number m w.0 e), nosynth_out m b w.1, nosynth_out m a w.2)

nosynth_subtree : (m n : ℕ) (f : Forest Node) → NoSynth m f → NoSynth m (subtree key n f)
unfolding subtree NoSynth
nosynth_subtree m n none s = tt
nosynth_subtree m n (node x b a) s = go (eqb x.number n) (has key n b) (nosynth_subtree m n b s.1) (nosynth_subtree m n a s.2)
  where
    go : (p q : Bool) → NoSynth m (subtree key n b) → NoSynth m (subtree key n a) → NoSynth m (pick p (node x b none) (pick q (subtree key n b) (subtree key n a)))
    go true q i j = (s.0, s.1, tt)
    go false true i j = i
    go false false i j = j

module _ (test : ℕ → Bool) (t : List Node) (h : rooted t ≡ true) where
  -- one law for every edit E of the table that is the edit e of the tree: where a node stays in the tree, its parent stays in the table
  edited : (E : List Node → List Node) (e : Forest Node → Forest Node) → left test (E t) ≡ left test t → E (flatten 0 (build t)) ≡ flatten 0 (e (build t))
      → ((m : ℕ) → test m ≡ false → Stays m (e (build t)) (build t)) → Untouched test (E t) t
  edited E e records same stays = record {
    records = records;
    parents = λ m k.
        ap (λ (l : List Node). parent_of m (E l)) (sym (build-flatten t h))
        ∙ ap (λ (l : List Node). parent_of m l) same
        ∙ parent_tree m (e (build t))
        ∙ (stays m k).parents no_node
        ∙ sym (parent_tree m (build t))
        ∙ ap (λ (l : List Node). parent_of m l) (build-flatten t h);
  }

  inside : (m n : ℕ) → has key m (subtree key n (build t)) ≡ is_below m n t
  inside m n = sym (below_tree m n (build t)) ∙ ap (λ (l : List Node). is_below m n l) (build-flatten t h)

  -- the run of a node touched
  module _ (n : ℕ) (c : Covers test (run_of n t)) where
    outside : (m : ℕ) → test m ≡ false → has key m (subtree key n (build t)) ≡ false
    outside m e = inside m n ∙ apart_from test m (is_below m n t) (c m) e

    pub untouched_cut : Untouched test (cut n t) t
    untouched_cut = edited (λ l. cut n l) (λ f. free key n f) (left_cut test n t c) (cut_tree n (build t)) (λ m e. stays-free m n (build t) (outside m e))

  pub untouched_set_run : (n flag : ℕ) → test n ≡ true → Untouched test (set_run n flag t) t
  untouched_set_run n flag k =
      edited (λ l. set_run n flag l) (λ f. change key n (with_run flag) f) (left_set_run test n flag t k) (set_run_tree n flag (build t)) (λ m e. stays_run m n (build t) flag)

  pub untouched_cut_below : (n : ℕ) → apart t ≡ true → ((m : ℕ) → is_below m n t ≡ true → eqb m n ≡ false → test m ≡ true) → Untouched test (cut_below n t) t
  untouched_cut_below n a c =
      edited (λ l. cut_below n l) (λ f. free_below key n f) (left_cut_below test n t a c) (cut_below_tree n (build t)) (λ m e. go m e (eqb m n) refl)
    where
      go : (m : ℕ) → test m ≡ false → (b : Bool) → eqb m n ≡ b → Stays m (free_below key n (build t)) (build t)
      go m e true q = stays-free_below_self m n (build t) (eqb-true m n q)
      go m e false q = stays-free_below m n (build t) (inside m n ∙ apart_from test m (is_below m n t) (λ b. c m b q) e)

  pub untouched_deep_free : (n : ℕ) → ((m : ℕ) → is_below m n t ≡ true → synth_lives m t ≡ true → test m ≡ true) → Untouched test (deep_free n t) t
  untouched_deep_free n c =
      edited (λ l. deep_free n l) (λ f. free_deep key is_group n f) (left_deep_free test n t c) (deep_free_tree n (build t) leaves)
      (λ m e. stays-free_deep m n (build t) (go m e (is_below m n t) refl) leaves)
    where
      leaves : Leaves (build t)
      leaves = tree_leaves (build t) (build_tree t h)

      go : (m : ℕ) → test m ≡ false → (b : Bool) → is_below m n t ≡ b → NoSynth m (subtree key n (build t))
      go m e false q = nosynth_out m (subtree key n (build t)) (inside m n ∙ q)
      go m e true q =
          nosynth_subtree m n (build t)
          (nosynth_tree m (build t) (ap (λ (l : List Node). synth_lives m l) (build-flatten t h) ∙ apart_from test m (synth_lives m t) (λ s. c m q s) e))

  -- the records xs of a forest g put in
  module _ (g : Forest Node) (xs : List Node) (laid : xs ≡ flatten 0 g) (c : Covers test xs) (n : ℕ) where
    new : (m : ℕ) → test m ≡ false → has key m g ≡ false
    new m e = sym (ap (λ (l : List Node). lives m l) laid ∙ lives-has m 0 g) ∙ apart_from test m (lives m xs) (c m) e

    put : (add : List Node → List Node → List Node) (e : Forest Node → Forest Node) → left test (add xs t) ≡ left test t → add (flatten 0 g) (flatten 0 (build t)) ≡ flatten 0 (e (build t))
        → ((m : ℕ) → test m ≡ false → Stays m (e (build t)) (build t)) → Untouched test (add xs t) t
    put add e records same stays = edited (λ l. add xs l) e records (ap (λ (ys : List Node). add ys (flatten 0 (build t))) laid ∙ same) stays

    pub untouched_add_head : Untouched test (add_head xs n t) t
    untouched_add_head = put (λ xs l. add_head xs n l) (λ f. put_head key g n f) (left_add_head test xs c n t) (add_head_tree g n (build t)) (λ m e. stays-put_head m n (build t) g (new m e))

    pub untouched_add_tail : Untouched test (add_tail xs n t) t
    untouched_add_tail = put (λ xs l. add_tail xs n l) (λ f. put_tail key g n f) (left_add_tail test xs c n t) (add_tail_tree g n (build t)) (λ m e. stays-put_tail m n (build t) g (new m e))

    pub untouched_add_before : Untouched test (add_before xs n t) t
    untouched_add_before = put (λ xs l. add_before xs n l) (λ f. put_before key g n f) (left_add_before test xs c n t) (add_before_tree g n (build t)) (λ m e. stays-put_before m n (build t) g (new m e))

    pub untouched_add_after : Untouched test (add_after xs n t) t
    untouched_add_after = put (λ xs l. add_after xs n l) (λ f. put_after key g n f) (left_add_after test xs c n t) (add_after_tree g n (build t)) (λ m e. stays-put_after m n (build t) g (new m e))

    pub untouched_add_over : Covers test (run_of n t) → Untouched test (add_over xs n t) t
    untouched_add_over k =
        put (λ xs l. add_over xs n l) (λ f. put_over key g n f) (left_add_over test n t k xs c) (add_over_tree g n (build t)) (λ m e. stays_put_over m n (build t) g (new m e) (outside n k m e))

  -- the node a moved
  module _ (a n : ℕ) (c : Covers test (run_of a t)) where
    pub untouched_move_head : Untouched test (move_head a n t) t
    untouched_move_head = edited (λ l. move_head a n l) (λ f. place_head key a n f) (left_move_head test a n t c) (move_head_tree a n (build t)) (λ m e. stays-place_head m a n (build t) (outside a c m e))

    pub untouched_move_tail : Untouched test (move_tail a n t) t
    untouched_move_tail = edited (λ l. move_tail a n l) (λ f. place_tail key a n f) (left_move_tail test a n t c) (move_tail_tree a n (build t)) (λ m e. stays-place_tail m a n (build t) (outside a c m e))

    pub untouched_move_before : Untouched test (move_before a n t) t
    untouched_move_before = edited (λ l. move_before a n l) (λ f. place_before key a n f) (left_move_before test a n t c) (move_before_tree a n (build t)) (λ m e. stays-place_before m a n (build t) (outside a c m e))

    pub untouched_move_after : Untouched test (move_after a n t) t
    untouched_move_after = edited (λ l. move_after a n l) (λ f. place_after key a n f) (left_move_after test a n t c) (move_after_tree a n (build t)) (λ m e. stays-place_after m a n (build t) (outside a c m e))
