-- The plain tree laid out: what one edit of the tree is, as an edit of the table. One law for every edit.
use Prim.{Unit, tt}
use Rattle.std.specs.Prelude.{ℕ, ◌+◌, ◌-◌, ◌≤◌, ◌<◌, Bool, true, false, ◌≡◌, eqb}
use Rattle.std.proofs.Math.Path.{refl, ap}
use Rattle.std.proofs.Common.{sym, ap₂, ◌∙◌, le_refl, arith, lt-ltb, le-ltb}
use mathlib.Core.List.{List, [], ◌∷◌, ◌++◌, append_assoc, append-nil}
use Rattle.words.specs.Choice.{pick}
use Rattle.nodes.specs.declared.Node.{Node}
use Rattle.nodes.specs.Place.{lives}
use Rattle.nodes.specs.Edit.{level, lift, sink, take_deeper, drop_deeper, run_of, edit_rows}
use Rattle.nodes.specs.Split.{edit_none}
use Rattle.nodes.specs.Forest.{Forest, none, node, flatten, beside, has, subtree, edit}

abbrev pub key : Node → ℕ
key r = r.number

-- nothing of what follows lies deeper than d at once
unfoldable pub Shallow : ℕ → List Node → Type 0
Shallow d [] = Unit {0}
Shallow d (r ∷ l) = r.depth ≤ d

pub shallow_suc : (d : ℕ) (l : List Node) → Shallow d l → Shallow (d + 1) l
unfolding Shallow
shallow_suc d [] s = tt
shallow_suc d (r ∷ l) s = omega arith

pub shallow_flatten : (d : ℕ) (a : Forest Node) (rest : List Node) → Shallow d rest → Shallow d (flatten d a ++ rest)
unfolding flatten Shallow
shallow_flatten d none rest s = s
shallow_flatten d (node x b a) rest s = le_refl d

-- a law of a layout with something behind it, of the layout alone
pub shallow_nil : Shallow 0 []
unfolding Shallow
shallow_nil = tt

lift-append : (k : ℕ) (a b : List Node) → lift k (a ++ b) ≡ lift k a ++ lift k b
unfolding lift
lift-append k [] b = refl
lift-append k (r ∷ a) b = ap (λ (l : List Node). level (r.depth + k) r ∷ l) (lift-append k a b)

sink-append : (k : ℕ) (a b : List Node) → sink k (a ++ b) ≡ sink k a ++ sink k b
unfolding sink
sink-append k [] b = refl
sink-append k (r ∷ a) b = ap (λ (l : List Node). level (r.depth - k) r ∷ l) (sink-append k a b)

pub lift-flatten : (k d e : ℕ) (f : Forest Node) → d + k ≡ e → lift k (flatten d f) ≡ flatten e f
unfolding lift flatten
lift-flatten k d e none h = refl
lift-flatten k d e (node x b a) h =
    ap₂ (λ (j : ℕ) (l : List Node). level j x ∷ l) h
    (lift-append k (flatten (d + 1) b) (flatten d a)
    ∙ ap₂ (λ (u v : List Node). u ++ v) (lift-flatten k (d + 1) (e + 1) b (omega arith)) (lift-flatten k d e a h))

sink-flatten : (k d e : ℕ) (f : Forest Node) → d ≡ e + k → sink k (flatten d f) ≡ flatten e f
unfolding sink flatten
sink-flatten k d e none h = refl
sink-flatten k d e (node x b a) h =
    let less : d - k ≡ e = omega arith in
    ap₂ (λ (j : ℕ) (l : List Node). level j x ∷ l) less
    (sink-append k (flatten (d + 1) b) (flatten d a)
    ∙ ap₂ (λ (u v : List Node). u ++ v) (sink-flatten k (d + 1) (e + 1) b (omega arith)) (sink-flatten k d e a h))

pub beside-flatten : (d : ℕ) (f g : Forest Node) → flatten d (beside f g) ≡ flatten d f ++ flatten d g
unfolding flatten beside
beside-flatten d none g = refl
beside-flatten d (node x b a) g =
    ap (λ (l : List Node). level d x ∷ l)
    (ap (λ (l : List Node). flatten (d + 1) b ++ l) (beside-flatten d a g) ∙ sym (append_assoc (flatten (d + 1) b) (flatten d a) (flatten d g)))

-- the deeper records at the front, and what is past them
take_past : (d e : ℕ) (f : Forest Node) (rest : List Node) → d < e → take_deeper d (flatten e f ++ rest) ≡ flatten e f ++ take_deeper d rest
unfolding flatten take_deeper
take_past d e none rest h = refl
take_past d e (node x b a) rest h =
    rw (lt-ltb d e h)
    (ap (λ (l : List Node). level e x ∷ l)
    (ap (λ (l : List Node). take_deeper d l) (append_assoc (flatten (e + 1) b) (flatten e a) rest)
    ∙ take_past d (e + 1) b (flatten e a ++ rest) (omega arith)
    ∙ ap (λ (l : List Node). flatten (e + 1) b ++ l) (take_past d e a rest h)
    ∙ sym (append_assoc (flatten (e + 1) b) (flatten e a) (take_deeper d rest))))

take_stops : (d : ℕ) (rest : List Node) → Shallow d rest → take_deeper d rest ≡ []
unfolding take_deeper Shallow
take_stops d [] s = refl
take_stops d (r ∷ l) s = rw (le-ltb d r.depth s)

-- what passes over each record deeper than d passes over a forest that is
pub deep_past : {A : Type 0} (F : List Node → A) (d : ℕ) → ((r : Node) (l : List Node) → d < r.depth → F (r ∷ l) ≡ F l) → (e : ℕ) (f : Forest Node) (rest : List Node) → d < e → F (flatten e f ++ rest) ≡ F rest
unfolding flatten
deep_past F d pass e none rest h = refl
deep_past F d pass e (node x b a) rest h =
    pass (level e x) ((flatten (e + 1) b ++ flatten e a) ++ rest) h
    ∙ ap F (append_assoc (flatten (e + 1) b) (flatten e a) rest)
    ∙ deep_past F d pass (e + 1) b (flatten e a ++ rest) (omega arith)
    ∙ deep_past F d pass e a rest h

drop_past : (d e : ℕ) (f : Forest Node) (rest : List Node) → d < e → drop_deeper d (flatten e f ++ rest) ≡ drop_deeper d rest
unfolding drop_deeper
drop_past d = deep_past (λ l. drop_deeper d l) d (λ r l h. rw (lt-ltb d r.depth h))

drop_stops : (d : ℕ) (rest : List Node) → Shallow d rest → drop_deeper d rest ≡ rest
unfolding drop_deeper Shallow
drop_stops d [] s = refl
drop_stops d (r ∷ l) s = rw (le-ltb d r.depth s)

-- what lies below a node, and what follows
pub taken : (d : ℕ) (b a : Forest Node) (rest : List Node) → Shallow d rest → take_deeper d (flatten (d + 1) b ++ (flatten d a ++ rest)) ≡ flatten (d + 1) b
taken d b a rest s =
    take_past d (d + 1) b (flatten d a ++ rest) (omega arith)
    ∙ ap (λ (l : List Node). flatten (d + 1) b ++ l) (take_stops d (flatten d a ++ rest) (shallow_flatten d a rest s))
    ∙ append-nil (flatten (d + 1) b)

pub dropped : (d : ℕ) (b a : Forest Node) (rest : List Node) → Shallow d rest → drop_deeper d (flatten (d + 1) b ++ (flatten d a ++ rest)) ≡ flatten d a ++ rest
dropped d b a rest s = drop_past d (d + 1) b (flatten d a ++ rest) (omega arith) ∙ drop_stops d (flatten d a ++ rest) (shallow_flatten d a rest s)

pub neither : (p q r : Bool) → pick p true (pick q true r) ≡ false → (p ≡ false) × (q ≡ false) × (r ≡ false)
neither true q r h = ((cc), (cc), (cc))
neither false true r h = (refl, (cc), (cc))
neither false false r h = (refl, refl, h)

-- what passes over each record with another number passes over a forest without n
pub search_past : {A : Type 0} (F : List Node → A) (n : ℕ) → ((r : Node) (l : List Node) → eqb r.number n ≡ false → F (r ∷ l) ≡ F l) → (d : ℕ) (f : Forest Node) (rest : List Node) → has key n f ≡ false → F (flatten d f ++ rest) ≡ F rest
unfolding flatten has
search_past F n pass d none rest h = refl
search_past F n pass d (node x b a) rest h =
    let w = neither (eqb x.number n) (has key n b) (has key n a) h in
    pass (level d x) ((flatten (d + 1) b ++ flatten d a) ++ rest) w.0
    ∙ ap F (append_assoc (flatten (d + 1) b) (flatten d a) rest)
    ∙ search_past F n pass (d + 1) b (flatten d a ++ rest) w.1
    ∙ search_past F n pass d a rest w.2

-- a walk up to n that carries a number along, past a forest without n: it goes on with some number, with the same one where the forest is deep
module _ (n : ℕ) (walk : ℕ → List Node → ℕ) (step : Node → ℕ → ℕ) (turn : (p : ℕ) (r : Node) (l : List Node) → eqb r.number n ≡ false → walk p (r ∷ l) ≡ walk (step r p) l)
    (deep : ℕ) (keep : (r : Node) (p : ℕ) → deep ≤ r.depth → step r p ≡ p) where
  pub walk_past : (p d : ℕ) (f : Forest Node) (rest : List Node) → has key n f ≡ false → (q : ℕ) × (walk p (flatten d f ++ rest) ≡ walk q rest) × (deep ≤ d → q ≡ p)
  unfolding flatten has
  walk_past p d none rest h = (p, refl, λ k. refl)
  walk_past p d (node x b a) rest h =
      let w = neither (eqb x.number n) (has key n b) (has key n a) h in
      let r = level d x in
      let u = walk_past (step r p) (d + 1) b (flatten d a ++ rest) w.1 in
      let v = walk_past u.0 d a rest w.2 in
      let past : walk p (flatten d (node x b a) ++ rest) ≡ walk v.0 rest =
      turn p r ((flatten (d + 1) b ++ flatten d a) ++ rest) w.0
      ∙ ap (λ (l : List Node). walk (step r p) l) (append_assoc (flatten (d + 1) b) (flatten d a) rest)
      ∙ u.1
      ∙ v.1 in
      (v.0, past, λ k. v.2 k ∙ u.2 (omega arith) ∙ keep r p k)

-- a search of the layout is a search of the tree
lives-flatten : (n d : ℕ) (f : Forest Node) (rest : List Node) → lives n (flatten d f ++ rest) ≡ pick (has key n f) true (lives n rest)
unfolding flatten has lives
lives-flatten n d none rest = refl
lives-flatten n d (node x b a) rest =
    ap (λ (q : Bool). pick (eqb x.number n) true q)
    (ap (λ (l : List Node). lives n l) (append_assoc (flatten (d + 1) b) (flatten d a) rest)
    ∙ lives-flatten n (d + 1) b (flatten d a ++ rest)
    ∙ ap (λ (q : Bool). pick (has key n b) true q) (lives-flatten n d a rest))
    ∙ go (eqb x.number n) (has key n b)
  where
    go : (p q : Bool) → pick p true (pick q true (pick (has key n a) true (lives n rest))) ≡ pick (pick p true (pick q true (has key n a))) true (lives n rest)
    go true q = refl
    go false true = refl
    go false false = refl

pub lives-has : (n d : ℕ) (f : Forest Node) → lives n (flatten d f) ≡ has key n f
unfolding lives
lives-has n d f = ap (λ (l : List Node). lives n l) (sym (append-nil (flatten d f))) ∙ lives-flatten n d f [] ∙ go (has key n f)
  where
    go : (b : Bool) → pick b true false ≡ b
    go true = refl
    go false = refl

edit_past : (n d : ℕ) (H : Node → List Node → List Node) (f : Forest Node) (rest : List Node) → has key n f ≡ false → edit_rows n H (flatten d f ++ rest) ≡ flatten d f ++ edit_rows n H rest
unfolding flatten edit_rows has
edit_past n d H none rest h = refl
edit_past n d H (node x b a) rest h =
    let w = neither (eqb x.number n) (has key n b) (has key n a) h in
    ap (λ (p : Bool). pick p (H (level d x) ((flatten (d + 1) b ++ flatten d a) ++ rest)) (level d x ∷ edit_rows n H ((flatten (d + 1) b ++ flatten d a) ++ rest))) w.0
    ∙ ap (λ (l : List Node). level d x ∷ l)
    (ap (λ (l : List Node). edit_rows n H l) (append_assoc (flatten (d + 1) b) (flatten d a) rest)
    ∙ edit_past n (d + 1) H b (flatten d a ++ rest) w.1
    ∙ ap (λ (l : List Node). flatten (d + 1) b ++ l) (edit_past n d H a rest w.2)
    ∙ sym (append_assoc (flatten (d + 1) b) (flatten d a) (edit_rows n H rest)))

-- an edit at a node that is not there changes nothing
pub edit_absent : {A : Type 0} (look : A → ℕ) (n : ℕ) (h : A → Forest A → Forest A → Forest A) (f : Forest A) → has look n f ≡ false → edit look n h f ≡ f
unfolding edit has
edit_absent look n h none t = refl
edit_absent {A} look n h (node x b a) t =
    let w = neither (eqb (look x) n) (has look n b) (has look n a) t in
    ap₂ (λ (p q : Bool). pick p (h x b a) (pick q (node x (edit look n h b) a) (node x b (edit look n h a)))) w.0 w.1
    ∙ ap (λ (g : Forest A). node x b g) (edit_absent look n h a w.2)

-- a property of a forest that the forests below a node and after it have too
abbrev pub Inherited : (Forest Node → Type 0) → Type 0
Inherited P = (x : Node) (b a : Forest Node) → P (node x b a) → P b × P a

-- H does to records what h does to trees, where P holds
abbrev pub AgreesOn : (Forest Node → Type 0) → (Node → List Node → List Node) → (Node → Forest Node → Forest Node → Forest Node) → Type 0
AgreesOn P H h = (x : Node) (d : ℕ) (b a : Forest Node) (rest : List Node) → P (node x b a) → Shallow d rest → H (level d x) (flatten (d + 1) b ++ (flatten d a ++ rest)) ≡ flatten d (h x b a) ++ rest

module _ (P : Forest Node → Type 0) (down : Inherited P) (n : ℕ) (H : Node → List Node → List Node) (h : Node → Forest Node → Forest Node → Forest Node) (g : AgreesOn P H h) where
  -- one law for every edit
  pub edit-flatten : (d : ℕ) (f : Forest Node) (rest : List Node) → P f → has key n f ≡ true → Shallow d rest → edit_rows n H (flatten d f ++ rest) ≡ flatten d (edit key n h f) ++ rest
  unfolding flatten edit_rows has edit
  edit-flatten d none rest i t s = cc
  edit-flatten d (node x b a) rest i t s =
      here
      (λ e. edit-flatten (d + 1) b (flatten d a ++ rest) (down x b a i).0 e (shallow_suc d (flatten d a ++ rest) (shallow_flatten d a rest s)))
      (λ e. edit-flatten d a rest (down x b a i).1 e s)
      (eqb x.number n) (has key n b) refl t
    where
      tail : List Node
      tail = (flatten (d + 1) b ++ flatten d a) ++ rest

      regroup : tail ≡ flatten (d + 1) b ++ (flatten d a ++ rest)
      regroup = append_assoc (flatten (d + 1) b) (flatten d a) rest

      here : (has key n b ≡ true → edit_rows n H (flatten (d + 1) b ++ (flatten d a ++ rest)) ≡ flatten (d + 1) (edit key n h b) ++ (flatten d a ++ rest))
          → (has key n a ≡ true → edit_rows n H (flatten d a ++ rest) ≡ flatten d (edit key n h a) ++ rest)
          → (p q : Bool) → has key n b ≡ q → pick p true (pick q true (has key n a)) ≡ true
          → pick p (H (level d x) tail) (level d x ∷ edit_rows n H tail) ≡ flatten d (pick p (h x b a) (pick q (node x (edit key n h b) a) (node x b (edit key n h a)))) ++ rest
      here below after true q e u = ap (λ (l : List Node). H (level d x) l) regroup ∙ g x d b a rest i s
      here below after false true e u =
          ap (λ (l : List Node). level d x ∷ l)
          (ap (λ (l : List Node). edit_rows n H l) regroup ∙ below e ∙ sym (append_assoc (flatten (d + 1) (edit key n h b)) (flatten d a) rest))
      here below after false false e u =
          ap (λ (l : List Node). level d x ∷ l)
          (ap (λ (l : List Node). edit_rows n H l) regroup
          ∙ edit_past n (d + 1) H b (flatten d a ++ rest) e
          ∙ ap (λ (l : List Node). flatten (d + 1) b ++ l) (after u)
          ∙ sym (append_assoc (flatten (d + 1) b) (flatten d (edit key n h a)) rest))

  -- an edit of a whole tree; also of one that has no n
  pub edit_tree_on : (f : Forest Node) → P f → edit_rows n H (flatten 0 f) ≡ flatten 0 (edit key n h f)
  edit_tree_on f i = go (has key n f) refl
    where
      go : (b : Bool) → has key n f ≡ b → edit_rows n H (flatten 0 f) ≡ flatten 0 (edit key n h f)
      go true e =
          ap (λ (l : List Node). edit_rows n H l) (sym (append-nil (flatten 0 f))) ∙ edit-flatten 0 f [] i e shallow_nil ∙ append-nil (flatten 0 (edit key n h f))
      go false e = edit_none n H (flatten 0 f) (lives-has n 0 f ∙ e) ∙ ap (λ (k : Forest Node). flatten 0 k) (sym (edit_absent key n h f e))

-- the same with no property
abbrev pub Agrees : (Node → List Node → List Node) → (Node → Forest Node → Forest Node → Forest Node) → Type 0
Agrees H h = AgreesOn (λ f. Unit {0}) H h

pub edit_tree : (n : ℕ) (H : Node → List Node → List Node) (h : Node → Forest Node → Forest Node → Forest Node) → Agrees H h → (f : Forest Node) → edit_rows n H (flatten 0 f) ≡ flatten 0 (edit key n h f)
edit_tree n H h g f = edit_tree_on (λ f. Unit {0}) (λ x b a u. (tt, tt)) n H h g f tt

-- the run of a node is its subtree laid out
run_past : (n d : ℕ) (f : Forest Node) (rest : List Node) → has key n f ≡ false → run_of n (flatten d f ++ rest) ≡ run_of n rest
unfolding run_of
run_past n = search_past (λ l. run_of n l) n (λ r l e. rw e)

run_subtree : (n d : ℕ) (f : Forest Node) (rest : List Node) → has key n f ≡ true → Shallow d rest → run_of n (flatten d f ++ rest) ≡ flatten 0 (subtree key n f)
unfolding flatten run_of has subtree sink
run_subtree n d none rest t s = cc
run_subtree n d (node x b a) rest t s =
    here
    (λ e. run_subtree n (d + 1) b (flatten d a ++ rest) e (shallow_suc d (flatten d a ++ rest) (shallow_flatten d a rest s)))
    (λ e. run_subtree n d a rest e s)
    (eqb x.number n) (has key n b) refl t
  where
    tail : List Node
    tail = (flatten (d + 1) b ++ flatten d a) ++ rest

    regroup : tail ≡ flatten (d + 1) b ++ (flatten d a ++ rest)
    regroup = append_assoc (flatten (d + 1) b) (flatten d a) rest

    here : (has key n b ≡ true → run_of n (flatten (d + 1) b ++ (flatten d a ++ rest)) ≡ flatten 0 (subtree key n b))
        → (has key n a ≡ true → run_of n (flatten d a ++ rest) ≡ flatten 0 (subtree key n a))
        → (p q : Bool) → has key n b ≡ q → pick p true (pick q true (has key n a)) ≡ true
        → pick p (level (d - d) x ∷ sink d (take_deeper d tail)) (run_of n tail) ≡ flatten 0 (pick p (node x b none) (pick q (subtree key n b) (subtree key n a)))
    here below after true q e u =
        let top : d - d ≡ 0 = omega arith in
        ap₂ (λ (j : ℕ) (l : List Node). level j x ∷ l) top
        (ap (λ (l : List Node). sink d (take_deeper d l)) regroup
        ∙ ap (λ (l : List Node). sink d l) (taken d b a rest s)
        ∙ sink-flatten d (d + 1) 1 b (omega arith)
        ∙ sym (append-nil (flatten 1 b)))
    here below after false true e u = ap (λ (l : List Node). run_of n l) regroup ∙ below e
    here below after false false e u = ap (λ (l : List Node). run_of n l) regroup ∙ run_past n (d + 1) b (flatten d a ++ rest) e ∙ after u

pub subtree_absent : {A : Type 0} (look : A → ℕ) (n : ℕ) (f : Forest A) → has look n f ≡ false → subtree look n f ≡ none
unfolding subtree has
subtree_absent look n none t = refl
subtree_absent {A} look n (node x b a) t =
    let w = neither (eqb (look x) n) (has look n b) (has look n a) t in
    ap₂ (λ (p q : Bool). pick p (node x b none) (pick q (subtree look n b) (subtree look n a))) w.0 w.1 ∙ subtree_absent look n a w.2

-- the items of the two are the same, each at its depth below n
pub run_tree : (n : ℕ) (f : Forest Node) → run_of n (flatten 0 f) ≡ flatten 0 (subtree key n f)
unfolding run_of flatten
run_tree n f = ap (λ (l : List Node). run_of n l) (sym (append-nil (flatten 0 f))) ∙ go (has key n f) refl
  where
    go : (b : Bool) → has key n f ≡ b → run_of n (flatten 0 f ++ []) ≡ flatten 0 (subtree key n f)
    go true e = run_subtree n 0 f [] e shallow_nil
    go false e = run_past n 0 f [] e ∙ ap (λ (k : Forest Node). flatten 0 k) (sym (subtree_absent key n f e))
