-- What is seen on the way to a node's row settles whether an ancestor is off, and which; and so many synths run before it.
use Rattle.std.specs.Prelude.{ℕ, suc, ◌+◌, ◌≤◌, ◌<◌, Bool, true, false, ◌≡◌, refl, leb, eqb, length, take}
use Rattle.std.proofs.Common.{sym, ap, ◌∙◌, subst, arith, le-leb}
use mathlib.Core.List.{List, [], ◌∷◌, ◌++◌, append_assoc}
use Rattle.std.proofs.Math.Option.{Option, none, some}
use Rattle.std.proofs.lemmas.Bool.{lt-leb}
use Rattle.words.specs.Choice.{pick, either}
use Rattle.nodes.specs.declared.Node.{Node}
use Rattle.nodes.specs.Place.{is_group, place}
use Rattle.nodes.specs.Edit.{level}
use Rattle.nodes.specs.Forest.{Forest, node, flatten, has}
use Rattle.nodes.specs.Forest as forest
use Rattle.nodes.specs.Order.{is_on, order_from}
use Rattle.treerefinement.specs.Flatten.{key, neither}
use Rattle.nodes.specs.Structure.{listed}
use Rattle.treerefinement.specs.Parent.{depth_in, depth_least}
use Rattle.why.specs.Reasons.{ancestors, first_off, place_from1}
use Rattle.why.specs.Rows.{see, sight}

pub sight-append : (s : ℕ × ℕ) (a b : List Node) → sight s (a ++ b) ≡ sight (sight s a) b
unfolding sight
sight-append s [] b = refl
sight-append s (r ∷ a) b = sight-append (see s r) a b

-- past a record that is too deep, and past one that is not
see_under : (s : ℕ × ℕ) (r : Node) → s.0 < r.depth → see s r ≡ s
see_under s r h = rw (lt-leb r.depth s.0 h)

see_near : (s : ℕ × ℕ) (r : Node) → r.depth ≤ s.0 → see s r ≡ (pick (is_on r) (r.depth + 1) r.depth, r.number)
see_near s r h = rw (le-leb r.depth s.0 h)

-- past a forest that is too deep, and past one that is not
sight_under : (s : ℕ × ℕ) (d : ℕ) (f : Forest Node) → s.0 < d → sight s (flatten d f) ≡ s
unfolding sight flatten
sight_under s d forest.none h = refl
sight_under s d (node x b a) h =
    ap (λ (u : ℕ × ℕ). sight u (flatten (d + 1) b ++ flatten d a)) (see_under s (level d x) h)
    ∙ sight-append s (flatten (d + 1) b) (flatten d a)
    ∙ ap (λ (u : ℕ × ℕ). sight u (flatten d a)) (sight_under s (d + 1) b (omega arith))
    ∙ sight_under s d a h

past_below : (d : ℕ) (x : Node) (b : Forest Node) (o : Bool) → d + 1 ≤ (sight (d + 1, x.number) (flatten (d + 1) b)).0 → d ≤ (sight (pick o (d + 1) d, x.number) (flatten (d + 1) b)).0
past_below d x b true h = omega arith
past_below d x b false h = subst (λ (u : ℕ × ℕ). d ≤ u.0) (sym (sight_under (d, x.number) (d + 1) b (omega arith))) (omega arith)

sight_near : (s : ℕ × ℕ) (d : ℕ) (f : Forest Node) → d ≤ s.0 → d ≤ (sight s (flatten d f)).0
unfolding sight flatten
sight_near s d forest.none h = h
sight_near s d (node x b a) h =
    subst (λ (u : ℕ × ℕ). d ≤ u.0)
    (sym (ap (λ (u : ℕ × ℕ). sight u (flatten (d + 1) b ++ flatten d a)) (see_near s (level d x) h) ∙ sight-append (pick (is_on x) (d + 1) d, x.number) (flatten (d + 1) b) (flatten d a)))
    (sight_near (sight (pick (is_on x) (d + 1) d, x.number) (flatten (d + 1) b)) d a (past_below d x b (is_on x) (sight_near (d + 1, x.number) (d + 1) b (omega arith))))

-- the rows before the first of n
unfoldable pub rows_before : ℕ → List Node → List Node
rows_before n [] = []
rows_before n (r ∷ l) = pick (eqb r.number n) [] (r ∷ rows_before n l)

pub before_place : (n : ℕ) (l : List Node) → rows_before n l ≡ take (place n l) l
unfolding rows_before place
before_place n [] = refl
before_place n (r ∷ l) = go (eqb r.number n) (before_place n l)
  where
    go : (p : Bool) → rows_before n l ≡ take (place n l) l → pick p [] (r ∷ rows_before n l) ≡ take (pick p 0 (suc (place n l))) (r ∷ l)
    go true ih = refl
    go false ih = ap (λ (k : List Node). r ∷ k) ih

before_past : (n d : ℕ) (f : Forest Node) (rest : List Node) → has key n f ≡ false → rows_before n (flatten d f ++ rest) ≡ flatten d f ++ rows_before n rest
unfolding rows_before flatten has
before_past n d forest.none rest h = refl
before_past n d (node x b a) rest h =
    let w = neither (eqb x.number n) (has key n b) (has key n a) h in
    ap (λ (p : Bool). pick p [] (level d x ∷ rows_before n ((flatten (d + 1) b ++ flatten d a) ++ rest))) w.0
    ∙ ap (λ (l : List Node). level d x ∷ l)
    (ap (λ (l : List Node). rows_before n l) (append_assoc (flatten (d + 1) b) (flatten d a) rest)
    ∙ before_past n (d + 1) b (flatten d a ++ rest) w.1
    ∙ ap (λ (l : List Node). flatten (d + 1) b ++ l) (before_past n d a rest w.2)
    ∙ sym (append_assoc (flatten (d + 1) b) (flatten d a) (rows_before n rest)))

-- on the way to n in a forest, by where it stands in it
module _ (n d : ℕ) (x : Node) (b a : Forest Node) (rest : List Node) (s : ℕ × ℕ) where
  abbrev way : ℕ × ℕ
  way = sight s (rows_before n (flatten d (node x b a) ++ rest))

  way_here : eqb x.number n ≡ true → sight s (rows_before n (flatten d (node x b a) ++ rest)) ≡ s
  unfolding rows_before flatten sight
  way_here p = rw p

  way_below : eqb x.number n ≡ false
      → sight s (rows_before n (flatten d (node x b a) ++ rest)) ≡ sight (see s (level d x)) (rows_before n (flatten (d + 1) b ++ (flatten d a ++ rest)))
  unfolding rows_before flatten sight
  way_below p =
      rw p (ap (λ (l : List Node). sight (see s (level d x)) (rows_before n l)) (append_assoc (flatten (d + 1) b) (flatten d a) rest))

  way_after : eqb x.number n ≡ false → has key n b ≡ false
      → sight s (rows_before n (flatten d (node x b a) ++ rest)) ≡ sight (sight (see s (level d x)) (flatten (d + 1) b)) (rows_before n (flatten d a ++ rest))
  way_after p q =
      way_below p
      ∙ ap (λ (l : List Node). sight (see s (level d x)) l) (before_past n (d + 1) b (flatten d a ++ rest) q)
      ∙ sight-append (see s (level d x)) (flatten (d + 1) b) (rows_before n (flatten d a ++ rest))

-- a way through a forest that is too deep shows nothing new
way_under : (n : ℕ) (s : ℕ × ℕ) (d : ℕ) (f : Forest Node) (rest : List Node) → has key n f ≡ true → s.0 < d → sight s (rows_before n (flatten d f ++ rest)) ≡ s
unfolding has
way_under n s d forest.none rest t h = absurd (let z : ◌≡◌ {A = ℕ} 0 1 = cc in omega arith)
way_under n s d (node x b a) rest t h =
    go (eqb x.number n) refl (has key n b) refl t (λ e. way_under n s (d + 1) b (flatten d a ++ rest) e (omega arith)) (λ e. way_under n s d a rest e h)
  where
    same : see s (level d x) ≡ s
    same = see_under s (level d x) h

    go : (p : Bool) → eqb x.number n ≡ p → (q : Bool) → has key n b ≡ q → pick p true (pick q true (has key n a)) ≡ true
        → (has key n b ≡ true → sight s (rows_before n (flatten (d + 1) b ++ (flatten d a ++ rest))) ≡ s) → (has key n a ≡ true → sight s (rows_before n (flatten d a ++ rest)) ≡ s)
        → sight s (rows_before n (flatten d (node x b a) ++ rest)) ≡ s
    go true e q e2 u i j = way_here n d x b a rest s e
    go false e true e2 u i j =
        way_below n d x b a rest s e ∙ ap (λ (v : ℕ × ℕ). sight v (rows_before n (flatten (d + 1) b ++ (flatten d a ++ rest)))) same ∙ i e2
    go false e false e2 u i j =
        way_after n d x b a rest s e e2
        ∙ ap (λ (v : ℕ × ℕ). sight v (rows_before n (flatten d a ++ rest)))
        (ap (λ (v : ℕ × ℕ). sight v (flatten (d + 1) b)) same ∙ sight_under s (d + 1) b (omega arith))
        ∙ j u

-- what is seen before the row of n, of the depth k
abbrev seen_off : ℕ → ℕ × ℕ → Option ℕ
seen_off k s = pick (leb k s.0) none (some s.1)

-- of a node at most as deep as was seen no ancestor is off; of a deeper one the ancestor nearest the root that is off is the last that was not
pub off_seen : (n d : ℕ) (f : Forest Node) (rest : List Node) (s : ℕ × ℕ) → has key n f ≡ true → d ≤ s.0
    → first_off key is_on (ancestors key n f) ≡ pick (leb (depth_in d n f) (sight s (rows_before n (flatten d f ++ rest))).0) none (some (sight s (rows_before n (flatten d f ++ rest))).1)
unfolding has ancestors first_off depth_in
off_seen n d forest.none rest s t h = absurd (let z : ◌≡◌ {A = ℕ} 0 1 = cc in omega arith)
off_seen n d (node x b a) rest s t h =
    go (eqb x.number n) refl (has key n b) refl t (λ e. off_seen n (d + 1) b (flatten d a ++ rest) (d + 1, x.number) e (omega arith)) (λ v e k. off_seen n d a rest v e k)
  where
    near : see s (level d x) ≡ (pick (is_on x) (d + 1) d, x.number)
    near = see_near s (level d x) h

    -- n is below x: where x is off, nothing more is seen
    under : (o : Bool) → has key n b ≡ true
        → first_off key is_on (ancestors key n b) ≡ seen_off (depth_in (d + 1) n b) (sight (d + 1, x.number) (rows_before n (flatten (d + 1) b ++ (flatten d a ++ rest))))
        → pick o (first_off key is_on (ancestors key n b)) (some x.number)
        ≡ seen_off (depth_in (d + 1) n b) (sight (pick o (d + 1) d, x.number) (rows_before n (flatten (d + 1) b ++ (flatten d a ++ rest))))
    under true e i = i
    under false e i =
        sym (ap (λ (v : ℕ × ℕ). seen_off (depth_in (d + 1) n b) v) (way_under n (d, x.number) (d + 1) b (flatten d a ++ rest) e (omega arith))
        ∙ rw (lt-leb (depth_in (d + 1) n b) d (let k = depth_least n (d + 1) b e in omega arith)))

    go : (p : Bool) → eqb x.number n ≡ p → (q : Bool) → has key n b ≡ q → pick p true (pick q true (has key n a)) ≡ true
        → (has key n b ≡ true → first_off key is_on (ancestors key n b) ≡ seen_off (depth_in (d + 1) n b) (sight (d + 1, x.number) (rows_before n (flatten (d + 1) b ++ (flatten d a ++ rest)))))
        → ((v : ℕ × ℕ) → has key n a ≡ true → d ≤ v.0 → first_off key is_on (ancestors key n a) ≡ seen_off (depth_in d n a) (sight v (rows_before n (flatten d a ++ rest))))
        → first_off key is_on (pick p [] (pick q (x ∷ ancestors key n b) (ancestors key n a)))
        ≡ seen_off (pick p d (pick q (depth_in (d + 1) n b) (depth_in d n a))) (sight s (rows_before n (flatten d (node x b a) ++ rest)))
    go true e q e2 u i j = sym (ap (λ (v : ℕ × ℕ). seen_off d v) (way_here n d x b a rest s e) ∙ rw (le-leb d s.0 h))
    go false e true e2 u i j =
        under (is_on x) e2 (i e2)
        ∙ ap (λ (v : ℕ × ℕ). seen_off (depth_in (d + 1) n b) v)
        (sym (way_below n d x b a rest s e ∙ ap (λ (v : ℕ × ℕ). sight v (rows_before n (flatten (d + 1) b ++ (flatten d a ++ rest)))) near))
    go false e false e2 u i j =
        j (sight (see s (level d x)) (flatten (d + 1) b)) u
        (subst (λ (v : ℕ × ℕ). d ≤ (sight v (flatten (d + 1) b)).0) (sym near) (past_below d x b (is_on x) (sight_near (d + 1, x.number) (d + 1) b (omega arith))))
        ∙ ap (λ (v : ℕ × ℕ). seen_off (depth_in d n a) v) (sym (way_after n d x b a rest s e e2))

-- the order of rows and of those behind them
pub order_on : (s : ℕ × ℕ) (a b : List Node) → order_from s.0 (a ++ b) ≡ order_from s.0 a ++ order_from (sight s a).0 b
unfolding order_from sight
order_on s [] b = refl
order_on s (r ∷ a) b =
    go (leb r.depth s.0) (is_on r) (is_group r) (order_on (r.depth + 1, r.number) a b) (order_on (r.depth, r.number) a b) (order_on s a b)
  where
    go : (p o g : Bool) → order_from (r.depth + 1) (a ++ b) ≡ order_from (r.depth + 1) a ++ order_from (sight (r.depth + 1, r.number) a).0 b
        → order_from r.depth (a ++ b) ≡ order_from r.depth a ++ order_from (sight (r.depth, r.number) a).0 b → order_from s.0 (a ++ b) ≡ order_from s.0 a ++ order_from (sight s a).0 b
        → pick p (pick o (pick g (order_from (r.depth + 1) (a ++ b)) (r.number ∷ order_from (r.depth + 1) (a ++ b))) (order_from r.depth (a ++ b))) (order_from s.0 (a ++ b))
        ≡ pick p (pick o (pick g (order_from (r.depth + 1) a) (r.number ∷ order_from (r.depth + 1) a)) (order_from r.depth a)) (order_from s.0 a)
        ++ order_from (sight (pick p (pick o (r.depth + 1) r.depth, r.number) s) a).0 b
    go true true true i j k = i
    go true true false i j k = ap (λ (l : List ℕ). r.number ∷ l) i
    go true false g i j k = j
    go false o g i j k = k

-- a number does not stand in the order of the rows before its own
pub order_before : (n limit : ℕ) (l : List Node) → listed n (order_from limit (rows_before n l)) ≡ false
unfolding rows_before order_from listed
order_before n limit [] = refl
order_before n limit (r ∷ l) = go (eqb r.number n) refl (order_before n (r.depth + 1) l) (order_before n r.depth l) (order_before n limit l)
  where
    before : List Node
    before = rows_before n l

    inner : (q o g : Bool) → eqb r.number n ≡ false → listed n (order_from (r.depth + 1) before) ≡ false → listed n (order_from r.depth before) ≡ false → listed n (order_from limit before) ≡ false
        → listed n (pick q (pick o (pick g (order_from (r.depth + 1) before) (r.number ∷ order_from (r.depth + 1) before)) (order_from r.depth before)) (order_from limit before)) ≡ false
    inner true true true e i j k = i
    inner true true false e i j k = ap (λ (m : Bool). either m (listed n (order_from (r.depth + 1) before))) e ∙ i
    inner true false g e i j k = j
    inner false o g e i j k = k

    go : (p : Bool) → eqb r.number n ≡ p → listed n (order_from (r.depth + 1) before) ≡ false → listed n (order_from r.depth before) ≡ false → listed n (order_from limit before) ≡ false
        → listed n (order_from limit (pick p [] (r ∷ before))) ≡ false
    go true e i j k = refl
    go false e i j k = inner (leb r.depth limit) (is_on r) (is_group r) e i j k

-- so its place is behind them
pub place_behind : (n : ℕ) (a b : List ℕ) → listed n a ≡ false → place_from1 n (a ++ b) ≡ length a + place_from1 n b
unfolding listed place_from1
place_behind n [] b h = omega arith
place_behind n (m ∷ a) b h = go (eqb m n) h (place_behind n a b)
  where
    go : (p : Bool) → either p (listed n a) ≡ false → (listed n a ≡ false → place_from1 n (a ++ b) ≡ length a + place_from1 n b) → pick p 1 (suc (place_from1 n (a ++ b))) ≡ suc (length a) + place_from1 n b
    go true k ih = cc
    go false k ih = let e = ih k in omega arith
