-- A node's parent in the table is its parent in the plain tree.
use Rattle.std.specs.Prelude.{ℕ, ◌+◌, ◌≤◌, ◌<◌, Bool, true, false, ◌≡◌, refl, List, [], ◌++◌, ltb, eqb}
use Rattle.std.proofs.Common.{sym, ap, ◌∙◌, append_assoc, append-nil, arith, lt-ltb, le-ltb, ltb-true, ltb-false}
use Rattle.words.specs.Choice.{pick}
use Rattle.nodes.specs.declared.Node.{Node}
use Rattle.nodes.specs.Forest.{Forest, none, node, flatten, has}
use Rattle.nodes.specs.Structure.{no_node, depth_of, last_above, parent_of, parent_in, parent}
use Rattle.treerefinement.specs.Flatten.{key, neither, search_past, walk_past}

-- the depth of n in a forest at d
unfoldable pub depth_in : ℕ → ℕ → Forest Node → ℕ
depth_in d n none = 0
depth_in d n (node x b a) = pick (eqb x.number n) d (pick (has key n b) (depth_in (d + 1) n b) (depth_in d n a))

depth_past : (n d : ℕ) (f : Forest Node) (rest : List Node) → has key n f ≡ false → depth_of n (flatten d f ++ rest) ≡ depth_of n rest
unfolding depth_of
depth_past n = search_past (λ l. depth_of n l) n (λ r l e. rw e)

pub depth_flatten : (n d : ℕ) (f : Forest Node) (rest : List Node) → has key n f ≡ true → depth_of n (flatten d f ++ rest) ≡ depth_in d n f
unfolding flatten depth_of has depth_in
depth_flatten n d none rest h = cc
depth_flatten n d (node x b a) rest h = go (eqb x.number n) (has key n b) refl h (depth_flatten n (d + 1) b (flatten d a ++ rest)) (depth_flatten n d a rest)
  where
    tail : List Node
    tail = (flatten (d + 1) b ++ flatten d a) ++ rest

    regroup : depth_of n tail ≡ depth_of n (flatten (d + 1) b ++ (flatten d a ++ rest))
    regroup = ap (λ (l : List Node). depth_of n l) (append_assoc (flatten (d + 1) b) (flatten d a) rest)

    go : (p q : Bool) → has key n b ≡ q → pick p true (pick q true (has key n a)) ≡ true
        → (has key n b ≡ true → depth_of n (flatten (d + 1) b ++ (flatten d a ++ rest)) ≡ depth_in (d + 1) n b)
        → (has key n a ≡ true → depth_of n (flatten d a ++ rest) ≡ depth_in d n a)
        → pick p d (depth_of n tail) ≡ pick p d (pick q (depth_in (d + 1) n b) (depth_in d n a))
    go true q e u i j = refl
    go false true e u i j = regroup ∙ i e
    go false false e u i j = regroup ∙ depth_past n (d + 1) b (flatten d a ++ rest) e ∙ j u

pub depth_least : (n d : ℕ) (f : Forest Node) → has key n f ≡ true → d ≤ depth_in d n f
unfolding has depth_in
depth_least n d none h = absurd (let z : ◌≡◌ {A = ℕ} 0 1 = cc in omega arith)
depth_least n d (node x b a) h = go (eqb x.number n) (has key n b) refl h (depth_least n (d + 1) b) (depth_least n d a)
  where
    go : (p q : Bool) → has key n b ≡ q → pick p true (pick q true (has key n a)) ≡ true → (has key n b ≡ true → d + 1 ≤ depth_in (d + 1) n b) → (has key n a ≡ true → d ≤ depth_in d n a)
        → d ≤ pick p d (pick q (depth_in (d + 1) n b) (depth_in d n a))
    go true q e u i j = omega arith
    go false true e u i j = omega (arith, i e)
    go false false e u i j = j u

-- whose parent stands in the forest itself
parent_inner : (n d p q : ℕ) (f : Forest Node) → d < depth_in d n f → parent_in key p n f ≡ parent_in key q n f
unfolding parent_in depth_in
parent_inner n d p q none h = refl
parent_inner n d p q (node x b a) h = go (eqb x.number n) (has key n b) h (parent_inner n d p q a)
  where
    go : (i j : Bool) → d < pick i d (pick j (depth_in (d + 1) n b) (depth_in d n a)) → (d < depth_in d n a → parent_in key p n a ≡ parent_in key q n a)
        → pick i p (pick j (parent_in key x.number n b) (parent_in key p n a)) ≡ pick i q (pick j (parent_in key x.number n b) (parent_in key q n a))
    go true j u ih = absurd (omega arith)
    go false true u ih = refl
    go false false u ih = ih u

-- past a forest without n the search goes on with some number; with the same one if the forest is deep
above_past : (p e n d : ℕ) (f : Forest Node) (rest : List Node) → has key n f ≡ false → (q : ℕ) × (last_above p e n (flatten d f ++ rest) ≡ last_above q e n rest) × (e ≤ d → q ≡ p)
unfolding last_above
above_past p e n = walk_past n (λ j l. last_above j e n l) (λ r j. pick (ltb r.depth e) r.number j) (λ j r l h. rw h) e (λ r j k. rw (le-ltb r.depth e k)) p

above-flatten : (p n d : ℕ) (f : Forest Node) (rest : List Node) → has key n f ≡ true → last_above p (depth_in d n f) n (flatten d f ++ rest) ≡ parent_in key p n f
unfolding flatten last_above has parent_in depth_in
above-flatten p n d none rest h = cc
above-flatten p n d (node x b a) rest h =
    go (eqb x.number n) (has key n b) refl h
    (λ e. above-flatten x.number n (d + 1) b (flatten d a ++ rest) e)
    (λ q e. above-flatten q n d a rest e)
  where
    tail : List Node
    tail = (flatten (d + 1) b ++ flatten d a) ++ rest

    regroup : tail ≡ flatten (d + 1) b ++ (flatten d a ++ rest)
    regroup = append_assoc (flatten (d + 1) b) (flatten d a) rest

    -- n stands after x
    after : (t : Bool) → ltb d (depth_in d n a) ≡ t → has key n b ≡ false → has key n a ≡ true → ((q : ℕ) → has key n a ≡ true → last_above q (depth_in d n a) n (flatten d a ++ rest) ≡ parent_in key q n a)
        → last_above (pick t x.number p) (depth_in d n a) n tail ≡ parent_in key p n a
    after t e nb na ih =
        let s = pick t x.number p in
        let w = above_past s (depth_in d n a) n (d + 1) b (flatten d a ++ rest) nb in
        ap (λ (l : List Node). last_above s (depth_in d n a) n l) regroup ∙ w.1 ∙ ih w.0 na ∙ close t e w.0 w.2
      where
        close : (t : Bool) → ltb d (depth_in d n a) ≡ t → (q : ℕ) → (depth_in d n a ≤ d + 1 → q ≡ pick t x.number p) → parent_in key q n a ≡ parent_in key p n a
        close true e q k = parent_inner n d q p a (ltb-true d (depth_in d n a) e)
        close false e q k = let low = ltb-false d (depth_in d n a) e in ap (λ (j : ℕ). parent_in key j n a) (k (omega arith))

    go : (i j : Bool) → has key n b ≡ j → pick i true (pick j true (has key n a)) ≡ true
        → (has key n b ≡ true → last_above x.number (depth_in (d + 1) n b) n (flatten (d + 1) b ++ (flatten d a ++ rest)) ≡ parent_in key x.number n b)
        → ((q : ℕ) → has key n a ≡ true → last_above q (depth_in d n a) n (flatten d a ++ rest) ≡ parent_in key q n a)
        → pick i p (last_above (pick (ltb d (pick i d (pick j (depth_in (d + 1) n b) (depth_in d n a)))) x.number p) (pick i d (pick j (depth_in (d + 1) n b) (depth_in d n a))) n tail)
        ≡ pick i p (pick j (parent_in key x.number n b) (parent_in key p n a))
    go true j e u below next = refl
    go false true e u below next =
        let deep : d < depth_in (d + 1) n b = omega (arith, depth_least n (d + 1) b e) in
        rw (lt-ltb d (depth_in (d + 1) n b) deep) (ap (λ (l : List Node). last_above x.number (depth_in (d + 1) n b) n l) regroup ∙ below e)
    go false false e u below next = after (ltb d (depth_in d n a)) refl e u next

pub parent_absent : {A : Type 0} (look : A → ℕ) (p n : ℕ) (f : Forest A) → has look n f ≡ false → parent_in look p n f ≡ no_node
unfolding parent_in has
parent_absent look p n none h = refl
parent_absent look p n (node x b a) h =
    let w = neither (eqb (look x) n) (has look n b) (has look n a) h in
    rw (w.0, w.1) (parent_absent look p n a w.2)

pub parent_tree : (n : ℕ) (f : Forest Node) → parent_of n (flatten 0 f) ≡ parent key n f
unfolding depth_of last_above
parent_tree n f = ap (λ (l : List Node). last_above no_node (depth_of n l) n l) (sym (append-nil (flatten 0 f))) ∙ go (has key n f) refl
  where
    go : (b : Bool) → has key n f ≡ b → last_above no_node (depth_of n (flatten 0 f ++ [])) n (flatten 0 f ++ []) ≡ parent key n f
    go true e = ap (λ (d : ℕ). last_above no_node d n (flatten 0 f ++ [])) (depth_flatten n 0 f [] e) ∙ above-flatten no_node n 0 f [] e
    go false e =
        let w = above_past no_node 0 n 0 f [] e in
        ap (λ (d : ℕ). last_above no_node d n (flatten 0 f ++ [])) (depth_past n 0 f [] e) ∙ w.1 ∙ w.2 (omega arith) ∙ sym (parent_absent key no_node n f e)
