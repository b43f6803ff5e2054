-- A table with a root on top is a tree laid out, and a tree with a root on top is laid out as such a table.
use Prim.{Unit, tt}
use Rattle.std.specs.Prelude.{ℕ, ◌+◌, ◌≤◌, ◌<◌, Bool, true, false, ◌≡◌, refl, List, [], ◌∷◌, ◌++◌, ltb, leb, eqb}
use Rattle.std.proofs.Common.{sym, ap, ap₂, subst, ◌∙◌, append_assoc, arith, lt-ltb, le-ltb, le-leb, eq-eqb, ltb-true, ltb-false, leb-true, eqb-true}
use Rattle.words.specs.Choice.{pick, both}
use Rattle.words.specs.ChoiceLaws.{both_true}
use Rattle.nodes.specs.declared.Node.{Node}
use Rattle.nodes.specs.Place.{is_group}
use Rattle.nodes.specs.Edit.{level}
use Rattle.nodes.specs.Forest.{Forest, none, node, flatten, items}
use Rattle.nodes.specs.Formed.{reach, steps, rooted}
use Rattle.treerefinement.specs.Leaves.{Leaves}
use Rattle.treerefinement.specs.Build.{tops_deeper, tops_past, build}

items_tops : (d : ℕ) (f : Forest Node) → items (tops_deeper d f) ++ items (tops_past d f) ≡ items f
unfolding items tops_deeper tops_past
items_tops d none = refl
items_tops d (node x b a) = go (ltb d x.depth) (items_tops d a)
  where
    go : (p : Bool) → items (tops_deeper d a) ++ items (tops_past d a) ≡ items a
        → items (pick p (node x b (tops_deeper d a)) none) ++ items (pick p (tops_past d a) (node x b a)) ≡ x ∷ (items b ++ items a)
    go true ih = ap (λ (l : List Node). x ∷ l) (append_assoc (items b) (items (tops_deeper d a)) (items (tops_past d a)) ∙ ap (λ (l : List Node). items b ++ l) ih)
    go false ih = refl

pub items_build : (t : List Node) → items (build t) ≡ t
unfolding items build
items_build [] = refl
items_build (r ∷ l) = ap (λ (m : List Node). r ∷ m) (items_tops r.depth (build l) ∙ items_build l)

-- every record has the depth at which it lies
unfoldable pub Even : ℕ → Forest Node → Type 0
Even d none = Unit {0}
Even d (node x b a) = (x.depth ≡ d) × Even (d + 1) b × Even d a

pub flatten_even : (d : ℕ) (f : Forest Node) → Even d f → flatten d f ≡ items f
unfolding flatten items Even
flatten_even d none e = refl
flatten_even d (node x b a) e =
    ap₂ (λ (j : ℕ) (l : List Node). level j x ∷ l) (sym e.0) (ap₂ (λ (u v : List Node). u ++ v) (flatten_even (d + 1) b e.1) (flatten_even d a e.2))

-- nodes in a row, each no deeper than the one before it and the first no deeper than most, with what is below each laid out one deeper
unfoldable Stairs : ℕ → Forest Node → Type 0
Stairs most none = Unit {0}
Stairs most (node x b a) = (0 < x.depth) × (x.depth ≤ most) × (is_group x ≡ false → b ≡ none) × Even (x.depth + 1) b × Leaves b × Stairs x.depth a

-- of such nodes those deeper than d lie at d + 1, if none is deeper
tops_even : (d most : ℕ) (f : Forest Node) → most ≤ d + 1 → Stairs most f → Even (d + 1) (tops_deeper d f)
unfolding Stairs Even tops_deeper
tops_even d most none h s = tt
tops_even d most (node x b a) h s =
    let low = s.1 in
    go (ltb d x.depth) refl (tops_even d x.depth a (omega arith) s.5)
  where
    go : (p : Bool) → ltb d x.depth ≡ p → Even (d + 1) (tops_deeper d a) → Even (d + 1) (pick p (node x b (tops_deeper d a)) none)
    go true e ih =
        let low = s.1 in
        let deep : d < x.depth = ltb-true d x.depth e in
        let same : x.depth ≡ d + 1 = omega arith in
        (same, rw same at s.3, ih)
    go false e ih = tt

tops_leaves : (d most : ℕ) (f : Forest Node) → Stairs most f → Leaves (tops_deeper d f)
unfolding Stairs Leaves tops_deeper
tops_leaves d most none s = tt
tops_leaves d most (node x b a) s = go (ltb d x.depth) (tops_leaves d x.depth a s.5)
  where
    go : (p : Bool) → Leaves (tops_deeper d a) → Leaves (pick p (node x b (tops_deeper d a)) none)
    go true ih = (s.2, s.4, ih)
    go false ih = tt

tops_none : (d most : ℕ) (f : Forest Node) → most ≤ d → Stairs most f → tops_deeper d f ≡ none
unfolding Stairs tops_deeper
tops_none d most none h s = refl
tops_none d most (node x b a) h s = let low = s.1 in rw (le-ltb d x.depth (omega arith))

past_stairs : (d most : ℕ) (f : Forest Node) → Stairs most f → Stairs d (tops_past d f)
unfolding Stairs tops_past
past_stairs d most none s = tt
past_stairs d most (node x b a) s = go (ltb d x.depth) refl (past_stairs d x.depth a s.5)
  where
    go : (p : Bool) → ltb d x.depth ≡ p → Stairs d (tops_past d a) → Stairs d (pick p (tops_past d a) (node x b a))
    go true e ih = ih
    go false e ih = (s.0, ltb-false d x.depth e, s.2, s.3, s.4, s.5)

build_stairs : (most : ℕ) (l : List Node) → steps most l ≡ true → Stairs most (build l)
unfolding Stairs build steps
build_stairs most [] h = tt
build_stairs most (r ∷ l) h =
    let f = build l in
    let w = both_true (ltb 0 r.depth) (both (leb r.depth most) (steps (reach r) l)) h in
    let v = both_true (leb r.depth most) (steps (reach r) l) w.1 in
    let ih = build_stairs (reach r) l v.1 in
    (ltb-true 0 r.depth w.0, leb-true r.depth most v.0, leaf ih (is_group r) refl, tops_even r.depth (reach r) f (near (is_group r)) ih, tops_leaves r.depth (reach r) f ih, past_stairs r.depth (reach r) f ih)
  where
    near : (p : Bool) → pick p (r.depth + 1) r.depth ≤ r.depth + 1
    near true = omega arith
    near false = omega arith

    leaf : Stairs (reach r) (build l) → (p : Bool) → is_group r ≡ p → p ≡ false → tops_deeper r.depth (build l) ≡ none
    leaf s true e q = cc
    leaf s false e q = tops_none r.depth (reach r) (build l) (rw e (omega arith)) s

-- nodes that all lie at 1 are below the root
all_below : (f : Forest Node) → Stairs 1 f → (tops_deeper 0 f ≡ f) × (tops_past 0 f ≡ none)
unfolding Stairs tops_deeper tops_past
all_below none s = (refl, refl)
all_below (node x b a) s = let low = s.1 in go (ltb 0 x.depth) (lt-ltb 0 x.depth s.0) (all_below a (lower x.depth low a s.5))
  where
    lower : (d : ℕ) → d ≤ 1 → (f : Forest Node) → Stairs d f → Stairs 1 f
    lower d h none t = tt
    lower d h (node y c e) t = let low = t.1 in (t.0, (omega arith), t.2, t.3, t.4, t.5)

    go : (p : Bool) → p ≡ true → (tops_deeper 0 a ≡ a) × (tops_past 0 a ≡ none)
        → (pick p (node x b (tops_deeper 0 a)) none ≡ node x b a) × (pick p (tops_past 0 a) (node x b a) ≡ none)
    go true e ih = (ap (λ (k : Forest Node). node x b k) ih.0, ih.1)
    go false e ih = ((cc), (cc))

-- "Root: group 0, always live": alone on top, with synths as leaves below it
pub record Tree (f : Forest Node) : Type 0 where
  pub root : Node
  pub below : Forest Node
  pub top : f ≡ node root below none
  pub zero : root.number ≡ 0
  pub group : is_group root ≡ true
  pub leaves : Leaves below

-- the rule on the root, taken apart
rooted_parts : (r : Node) (l : List Node) → rooted (r ∷ l) ≡ true → (r.number ≡ 0) × (r.depth ≡ 0) × (is_group r ≡ true) × (steps 1 l ≡ true)
unfolding rooted
rooted_parts r l h =
    let u = both_true (eqb r.number 0) (both (eqb r.depth 0) (both (is_group r) (steps 1 l))) h in
    let v = both_true (eqb r.depth 0) (both (is_group r) (steps 1 l)) u.1 in
    let w = both_true (is_group r) (steps 1 l) v.1 in
    (eqb-true r.number 0 u.0, eqb-true r.depth 0 v.0, w.0, w.1)

build-root : (r : Node) (l : List Node) → rooted (r ∷ l) ≡ true → build (r ∷ l) ≡ node r (build l) none
unfolding build
build-root r l h =
    let w = rooted_parts r l h in
    let v = all_below (build l) (build_stairs 1 l w.3) in
    ap (λ (d : ℕ). node r (tops_deeper d (build l)) (tops_past d (build l))) w.1 ∙ ap₂ (λ (b a : Forest Node). node r b a) v.0 v.1

-- such a table is a tree laid out
pub build-flatten : (t : List Node) → rooted t ≡ true → flatten 0 (build t) ≡ t
unfolding rooted Even
build-flatten [] h = cc
build-flatten (r ∷ l) h =
    let w = rooted_parts r l h in
    let s = build_stairs 1 l w.3 in
    let e : Even 1 (build l) = subst (λ (k : Forest Node). Even 1 k) (all_below (build l) s).0 (tops_even 0 1 (build l) (omega arith) s) in
    ap (λ (k : Forest Node). flatten 0 k) (build-root r l h)
    ∙ flatten_even 0 (node r (build l) none) (w.1, e, tt)
    ∙ ap items (sym (build-root r l h))
    ∙ items_build (r ∷ l)

pub build_tree : (t : List Node) → rooted t ≡ true → Tree (build t)
unfolding rooted
build_tree [] h = absurd (let z : ◌≡◌ {A = ℕ} 0 1 = cc in omega arith)
build_tree (r ∷ l) h =
    let w = rooted_parts r l h in
    let s = build_stairs 1 l w.3 in
    let v : Leaves (build l) = subst (λ (k : Forest Node). Leaves k) (all_below (build l) s).0 (tops_leaves 0 1 (build l) s) in
    record { root = r; below = build l; top = build-root r l h; zero = w.0; group = w.2; leaves = v }

-- a tree laid out: each record lies as deep as the one before it lets it
steps-flatten : (f : Forest Node) (most e : ℕ) (rest : List Node) → Leaves f → 0 < e → e ≤ most → ((k : ℕ) → e ≤ k → steps k rest ≡ true) → steps most (flatten e f ++ rest) ≡ true
unfolding flatten steps Leaves
steps-flatten none most e rest l pos near more = more most near
steps-flatten (node x b a) most e rest l pos near more =
    rw (lt-ltb 0 e pos, le-leb e most near)
    (ap (λ (t : List Node). steps (pick (is_group x) (e + 1) e) t) (append_assoc (flatten (e + 1) b) (flatten e a) rest)
    ∙ go (is_group x) refl
    (steps-flatten b (e + 1) (e + 1) (flatten e a ++ rest) l.1 (omega arith) (omega arith) (λ k h. steps-flatten a k e rest l.2 pos (omega arith) more))
    (steps-flatten a e e rest l.2 pos (omega arith) more))
  where
    go : (p : Bool) → is_group x ≡ p → steps (e + 1) (flatten (e + 1) b ++ (flatten e a ++ rest)) ≡ true → steps e (flatten e a ++ rest) ≡ true
        → steps (pick p (e + 1) e) (flatten (e + 1) b ++ (flatten e a ++ rest)) ≡ true
    go true q i j = i
    go false q i j = ap (λ (k : Forest Node). steps e (flatten (e + 1) k ++ (flatten e a ++ rest))) (l.0 q) ∙ j

pub flatten-rooted : (f : Forest Node) → Tree f → rooted (flatten 0 f) ≡ true
unfolding flatten rooted steps
flatten-rooted f t =
    ap (λ (k : Forest Node). rooted (flatten 0 k)) t.top
    ∙ rw (eq-eqb t.root.number 0 t.zero, eq-eqb 0 0 refl, t.group) (steps-flatten t.below 1 1 [] t.leaves (omega arith) (omega arith) (λ k h. refl))
