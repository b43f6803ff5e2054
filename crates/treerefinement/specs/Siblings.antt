-- A node's neighbours in the table are its neighbours in the plain tree.
use Prim.{Unit, tt}
use Rattle.std.specs.Prelude.{ℕ, suc, ◌+◌, ◌<◌, Bool, true, false, ◌≡◌, refl, List, [], ◌∷◌, ◌++◌, ltb, eqb}
use Rattle.std.proofs.Common.{sym, ap, ◌∙◌, append_assoc, append-nil, arith, lt-ltb, le-ltb, ltb-true, ltb-false, eq-eqb, ne_eqb}
use Rattle.words.specs.Choice.{pick}
use Rattle.nodes.specs.declared.Node.{Node}
use Rattle.nodes.specs.Edit.{drop_deeper}
use Rattle.nodes.specs.Forest.{Forest, none, node, flatten, has, below}
use Rattle.nodes.specs.Structure.{no_node, first_or, last_or, depth_of, last_beside, previous_of, previous_in, previous, first_beside, next_of, tops, first_top, last_top, next, head_of, tail_of, head, tail}
use Rattle.treerefinement.specs.Flatten.{key, neither, Shallow, dropped, search_past, walk_past}
use Rattle.treerefinement.specs.Parent.{depth_in, depth_flatten, depth_least}
use Rattle.treerefinement.specs.Family.{children_tree}

first_tops : (f : Forest Node) → first_or no_node (tops key f) ≡ first_top key f
unfolding tops first_or first_top
first_tops none = refl
first_tops (node x b a) = refl

last-tops : (p : ℕ) (f : Forest Node) → last_or p (tops key f) ≡ last_top key p f
unfolding tops last_or last_top
last-tops p none = refl
last-tops p (node x b a) = last-tops x.number a

pub head_tree : (n : ℕ) (f : Forest Node) → head_of n (flatten 0 f) ≡ head key n f
head_tree n f = ap (λ (l : List ℕ). first_or no_node l) (children_tree n f) ∙ first_tops (below key n f)

pub tail_tree : (n : ℕ) (f : Forest Node) → tail_of n (flatten 0 f) ≡ tail key n f
tail_tree n f = ap (λ (l : List ℕ). last_or no_node l) (children_tree n f) ∙ last-tops no_node (below key n f)

-- whose neighbour before it stands in the forest itself, or is none
previous_inner : (n d p q : ℕ) (f : Forest Node) → d < depth_in d n f → previous_in key p n f ≡ previous_in key q n f
unfolding previous_in depth_in
previous_inner n d p q none h = refl
previous_inner n d p q (node x b a) h = go (eqb x.number n) (has key n b) h
  where
    go : (i j : Bool) → d < pick i d (pick j (depth_in (d + 1) n b) (depth_in d n a))
        → pick i p (pick j (previous_in key no_node n b) (previous_in key x.number n a)) ≡ pick i q (pick j (previous_in key no_node n b) (previous_in key x.number n a))
    go true j u = absurd (omega arith)
    go false j u = refl

-- past a forest without n the search goes on with some number; with the same one if the forest is deeper than n
beside_past : (p e n d : ℕ) (f : Forest Node) (rest : List Node) → has key n f ≡ false → (q : ℕ) × (last_beside p e n (flatten d f ++ rest) ≡ last_beside q e n rest) × (e < d → q ≡ p)
unfolding last_beside
beside_past p e n =
    walk_past n (λ j l. last_beside j e n l) (λ r j. pick (ltb r.depth e) no_node (pick (eqb r.depth e) r.number j)) (λ j r l h. rw h) (suc e)
    (λ r j k. rw (le-ltb r.depth e (omega arith), ne_eqb r.depth e (λ q. omega arith))) p

beside-flatten : (p n d : ℕ) (f : Forest Node) (rest : List Node) → has key n f ≡ true → last_beside p (depth_in d n f) n (flatten d f ++ rest) ≡ previous_in key p n f
unfolding flatten last_beside has previous_in depth_in
beside-flatten p n d none rest h = cc
beside-flatten p n d (node x b a) rest h =
    go (eqb x.number n) (has key n b) refl h
    (λ e. beside-flatten no_node n (d + 1) b (flatten d a ++ rest) e)
    (λ q e. beside-flatten q n d a rest e)
  where
    tail : List Node
    tail = (flatten (d + 1) b ++ flatten d a) ++ rest

    regroup : tail ≡ flatten (d + 1) b ++ (flatten d a ++ rest)
    regroup = append_assoc (flatten (d + 1) b) (flatten d a) rest

    -- n stands after x: beside it, or deeper
    after : (t : Bool) → ltb d (depth_in d n a) ≡ t → has key n b ≡ false → has key n a ≡ true → ((q : ℕ) → has key n a ≡ true → last_beside q (depth_in d n a) n (flatten d a ++ rest) ≡ previous_in key q n a)
        → last_beside (pick t no_node (pick (eqb d (depth_in d n a)) x.number p)) (depth_in d n a) n tail ≡ previous_in key x.number n a
    after t e nb na ih =
        let s = pick t no_node (pick (eqb d (depth_in d n a)) x.number p) in
        let w = beside_past s (depth_in d n a) n (d + 1) b (flatten d a ++ rest) nb in
        ap (λ (l : List Node). last_beside s (depth_in d n a) n l) regroup ∙ w.1 ∙ ih w.0 na ∙ close t e w.0 w.2
      where
        close : (t : Bool) → ltb d (depth_in d n a) ≡ t → (q : ℕ) → (depth_in d n a < d + 1 → q ≡ pick t no_node (pick (eqb d (depth_in d n a)) x.number p)) → previous_in key q n a ≡ previous_in key x.number n a
        close true e q k = previous_inner n d q x.number a (ltb-true d (depth_in d n a) e)
        close false e q k =
            let low = ltb-false d (depth_in d n a) e in
            let same : d ≡ depth_in d n a = omega (arith, depth_least n d a na) in
            ap (λ (j : ℕ). previous_in key j n a) (k (omega arith) ∙ rw (eq-eqb d (depth_in d n a) same))

    go : (i j : Bool) → has key n b ≡ j → pick i true (pick j true (has key n a)) ≡ true
        → (has key n b ≡ true → last_beside no_node (depth_in (d + 1) n b) n (flatten (d + 1) b ++ (flatten d a ++ rest)) ≡ previous_in key no_node n b)
        → ((q : ℕ) → has key n a ≡ true → last_beside q (depth_in d n a) n (flatten d a ++ rest) ≡ previous_in key q n a)
        → pick i p (last_beside (pick (ltb d (pick i d (pick j (depth_in (d + 1) n b) (depth_in d n a)))) no_node (pick (eqb d (pick i d (pick j (depth_in (d + 1) n b) (depth_in d n a)))) x.number p)) (pick i d (pick j (depth_in (d + 1) n b) (depth_in d n a))) n tail)
        ≡ pick i p (pick j (previous_in key no_node n b) (previous_in key x.number n a))
    go true j e u below later = refl
    go false true e u below later =
        let deep : d < depth_in (d + 1) n b = omega (arith, depth_least n (d + 1) b e) in
        rw (lt-ltb d (depth_in (d + 1) n b) deep) (ap (λ (l : List Node). last_beside no_node (depth_in (d + 1) n b) n l) regroup ∙ below e)
    go false false e u below later = after (ltb d (depth_in d n a)) refl e u later

-- of a number that does not live the table says nothing of use
pub previous_tree : (n : ℕ) (f : Forest Node) → has key n f ≡ true → previous_of n (flatten 0 f) ≡ previous key n f
previous_tree n f e =
    ap (λ (l : List Node). last_beside no_node (depth_of n l) n l) (sym (append-nil (flatten 0 f)))
    ∙ ap (λ (d : ℕ). last_beside no_node d n (flatten 0 f ++ [])) (depth_flatten n 0 f [] e)
    ∙ beside-flatten no_node n 0 f [] e

-- what follows is less deep than d
unfoldable Above : ℕ → List Node → Type 0
Above d [] = Unit {0}
Above d (r ∷ l) = r.depth < d

above_shallow : (d : ℕ) (rest : List Node) → Above d rest → Shallow d rest
unfolding Above Shallow
above_shallow d [] s = tt
above_shallow d (r ∷ l) s = omega arith

above-suc : (d : ℕ) (a : Forest Node) (rest : List Node) → Above d rest → Above (d + 1) (flatten d a ++ rest)
unfolding Above flatten
above-suc d none [] s = tt
above-suc d none (r ∷ l) s = omega arith
above-suc d (node x b a) rest s = omega arith

first-top : (d : ℕ) (a : Forest Node) (rest : List Node) → Above d rest → first_beside d (flatten d a ++ rest) ≡ first_top key a
unfolding Above flatten first_beside first_top
first-top d none [] s = refl
first-top d none (r ∷ l) s = rw (ne_eqb r.depth d (λ q. omega arith))
first-top d (node x b a) rest s = rw (eq-eqb d d refl)

next_past : (n d : ℕ) (f : Forest Node) (rest : List Node) → has key n f ≡ false → next_of n (flatten d f ++ rest) ≡ next_of n rest
unfolding next_of
next_past n = search_past (λ l. next_of n l) n (λ r l e. rw e)

next_flatten : (n d : ℕ) (f : Forest Node) (rest : List Node) → has key n f ≡ true → Above d rest → next_of n (flatten d f ++ rest) ≡ next key n f
unfolding flatten next_of has next
next_flatten n d none rest h s = cc
next_flatten n d (node x b a) rest h s =
    go (eqb x.number n) (has key n b) refl h
    (λ e. next_flatten n (d + 1) b (flatten d a ++ rest) e (above-suc d a rest s))
    (λ e. next_flatten n d a rest e s)
  where
    tail : List Node
    tail = (flatten (d + 1) b ++ flatten d a) ++ rest

    regroup : tail ≡ flatten (d + 1) b ++ (flatten d a ++ rest)
    regroup = append_assoc (flatten (d + 1) b) (flatten d a) rest

    go : (p q : Bool) → has key n b ≡ q → pick p true (pick q true (has key n a)) ≡ true
        → (has key n b ≡ true → next_of n (flatten (d + 1) b ++ (flatten d a ++ rest)) ≡ next key n b) → (has key n a ≡ true → next_of n (flatten d a ++ rest) ≡ next key n a)
        → pick p (first_beside d (drop_deeper d tail)) (next_of n tail) ≡ pick p (first_top key a) (pick q (next key n b) (next key n a))
    go true q e u i j =
        ap (λ (l : List Node). first_beside d (drop_deeper d l)) regroup
        ∙ ap (λ (l : List Node). first_beside d l) (dropped d b a rest (above_shallow d rest s))
        ∙ first-top d a rest s
    go false true e u i j = ap (λ (l : List Node). next_of n l) regroup ∙ i e
    go false false e u i j = ap (λ (l : List Node). next_of n l) regroup ∙ next_past n (d + 1) b (flatten d a ++ rest) e ∙ j u

next_absent : (n : ℕ) (f : Forest Node) → has key n f ≡ false → next key n f ≡ no_node
unfolding next has
next_absent n none h = refl
next_absent n (node x b a) h =
    let w = neither (eqb x.number n) (has key n b) (has key n a) h in
    rw (w.0, w.1) (next_absent n a w.2)

pub next_tree : (n : ℕ) (f : Forest Node) → next_of n (flatten 0 f) ≡ next key n f
unfolding next_of Above
next_tree n f = ap (λ (l : List Node). next_of n l) (sym (append-nil (flatten 0 f))) ∙ go (has key n f) refl
  where
    go : (b : Bool) → has key n f ≡ b → next_of n (flatten 0 f ++ []) ≡ next key n f
    go true e = next_flatten n 0 f [] e tt
    go false e = next_past n 0 f [] e ∙ sym (next_absent n f e)
