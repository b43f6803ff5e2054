-- Exactly one reason holds of every number: each as a statement by itself, and the answer is the one that holds.
use Rattle.std.specs.Prelude.{ℕ, suc, ◌+◌, ◌≤◌, Bool, length, eqb}
use Rattle.std.proofs.Math.Bool.{true, false}
use Rattle.std.proofs.Math.Path.{◌≡◌, refl, ap}
use Rattle.std.proofs.Common.{sym, ◌∙◌, subst, eqb-true, eq-eqb}
use mathlib.Core.List.{List, [], ◌∷◌, ◌++◌}
use Rattle.std.proofs.Math.Option.{Option, none, some}
use native.Mathlib.Omega.{arith}
use Rattle.words.specs.Choice.{pick, both, either}
use Rattle.words.specs.ChoiceLaws.{both_true}
use Rattle.nodes.specs.Forest.{Forest, node}
use Rattle.nodes.specs.Forest as forest
use Rattle.nodes.specs.Order.{order_tree}
use Rattle.treerefinement.specs.Tally.{one}
use Rattle.nodes.specs.Structure.{listed}
use Rattle.model.specs.Plain.{if_some}
use Rattle.why.specs.declared.Reason.{Reason}
use Rattle.why.specs.declared.Reason.TheVariants.{NoNode, Group, Off, AncestorOff, Running}
use Rattle.why.specs.Reasons.{node_of, ancestors, first_off, place_from1, first_true, reason}
use Rattle.why.specs.Runs.{times, all_on, all-on, one_off, runs, order_runs}

-- a number stands at a place, from 1
pub record StandsAt (place n : ℕ) (l : List ℕ) : Type 0 where
  pub front : List ℕ
  pub back : List ℕ
  pub split : l ≡ front ++ n ∷ back
  pub counted : place ≡ length front + 1

-- of ancestors from the root down: the one with this number is off, and none above it is
pub record NearestRoot {A : Type 0} (key : A → ℕ) (on : A → Bool) (number : ℕ) (l : List A) : Type 0 where
  pub above : List A
  pub ancestor : A
  pub under : List A
  pub split : l ≡ above ++ ancestor ∷ under
  pub named : key ancestor ≡ number
  pub off : on ancestor ≡ false
  pub above_on : all_on key on above ≡ true

module _ {A : Type 0} (key : A → ℕ) (group on : A → Bool) where
  -- "no such node; it is a group; off by its own flag; its own flag is on and the ancestor nearest the root that is off is this one; or running,
  -- and its place in the running order, from 1"
  abbrev pub Holds : Reason → ℕ → Forest A → Type 0
  Holds NoNode n f = node_of key n f ≡ none
  Holds Group n f = (x : A) × (node_of key n f ≡ some x) × (group x ≡ true)
  Holds Off n f = (x : A) × (node_of key n f ≡ some x) × (group x ≡ false) × (on x ≡ false)
  Holds (AncestorOff m) n f = (x : A) × (node_of key n f ≡ some x) × (group x ≡ false) × (on x ≡ true) × NearestRoot key on m (ancestors key n f)
  Holds (Running k) n f = StandsAt k n (order_tree key group on f)

-- a number that stands in a list stands at its place
stands_split : (n : ℕ) (l : List ℕ) → listed n l ≡ true → StandsAt (place_from1 n l) n l
unfolding listed place_from1
stands_split n [] h = absurd (let z : ◌≡◌ {A = ℕ} 0 1 = cc in omega arith)
stands_split n (m ∷ l) h = go (eqb m n) refl h (stands_split n l)
  where
    go : (p : Bool) → eqb m n ≡ p → either p (listed n l) ≡ true → (listed n l ≡ true → StandsAt (place_from1 n l) n l) → StandsAt (pick p 1 (suc (place_from1 n l))) n (m ∷ l)
    go true e t ih = record { front = []; back = l; split = ap (λ (k : ℕ). k ∷ l) (eqb-true m n e); counted = refl }
    go false e t ih =
        let w = ih t in
        record { front = m ∷ w.front; back = w.back; split = ap (λ (r : List ℕ). m ∷ r) w.split; counted = let c = w.counted in omega arith }

-- how often a number stands in a list
unfoldable count : ℕ → List ℕ → ℕ
count n [] = 0
count n (m ∷ l) = one (eqb m n) + count n l

count_append : (n : ℕ) (a b : List ℕ) → count n (a ++ b) ≡ count n a + count n b
unfolding count
count_append n [] b = omega arith
count_append n (m ∷ a) b = let ih = count_append n a b in omega arith

-- where it stands once, there is one such place
one_place : (n : ℕ) (front back : List ℕ) → count n (front ++ n ∷ back) ≤ 1 → (listed n (front ++ n ∷ back) ≡ true) × (place_from1 n (front ++ n ∷ back) ≡ length front + 1)
unfolding count listed place_from1
one_place n [] back h = (rw (eq-eqb n n refl), rw (eq-eqb n n refl))
one_place n (m ∷ front) back h = go (eqb m n) h (one_place n front back)
  where
    here : count n (n ∷ back) ≡ 1 + count n back
    here = rw (eq-eqb n n refl)

    go : (p : Bool) → one p + count n (front ++ n ∷ back) ≤ 1
        → (count n (front ++ n ∷ back) ≤ 1 → (listed n (front ++ n ∷ back) ≡ true) × (place_from1 n (front ++ n ∷ back) ≡ length front + 1))
        → (either p (listed n (front ++ n ∷ back)) ≡ true) × (pick p 1 (suc (place_from1 n (front ++ n ∷ back))) ≡ suc (length front) + 1)
    go true k ih = let all = count_append n front (n ∷ back) in absurd (omega (arith, here, all))
    go false k ih = let w = ih (omega arith) in (w.0, (let e = w.1 in omega arith))

-- the first that is off, taken apart and put together
module _ {A : Type 0} (key : A → ℕ) (on : A → Bool) where
  off_split : (l : List A) (m : ℕ) → first_off key on l ≡ some m → NearestRoot key on m l
  unfolding first_off all_on
  off_split [] m h = absurd (clash h)
    where
      clash : ◌≡◌ {A = Option ℕ} none (some m) → ⊥
      clash e = let z : ◌≡◌ {A = ℕ} 0 1 = ap (λ (y : Option ℕ). if_some y (λ k. 1) 0) e in omega arith
  off_split (x ∷ l) m h = go (on x) refl h (off_split l m)
    where
      go : (p : Bool) → on x ≡ p → pick p (first_off key on l) (some (key x)) ≡ some m → (first_off key on l ≡ some m → NearestRoot key on m l) → NearestRoot key on m (x ∷ l)
      go true e t ih =
          let w = ih t in
          record { above = x ∷ w.above; ancestor = w.ancestor; under = w.under; split = ap (λ (r : List A). x ∷ r) w.split; named = w.named; off = w.off; above_on = rw e w.above_on }
      go false e t ih =
          record { above = []; ancestor = x; under = l; split = refl; named = ap (λ (y : Option ℕ). if_some y (λ k. k) 0) t; off = e; above_on = refl }

  off_first : (above : List A) (x : A) (under : List A) → all_on key on above ≡ true → on x ≡ false → first_off key on (above ++ x ∷ under) ≡ some (key x)
  unfolding first_off all_on
  off_first [] x under h o = rw o
  off_first (y ∷ above) x under h o =
      let w = both_true (on y) (all_on key on above) h in
      rw w.0 (off_first above x under w.1 o)

  off_joined : (l : List A) (m : ℕ) → NearestRoot key on m l → first_off key on l ≡ some m
  off_joined l m w = ap (λ (r : List A). first_off key on r) w.split ∙ off_first w.above w.ancestor w.under w.above_on w.off ∙ ap some w.named

module _ {A : Type 0} (key : A → ℕ) (group on : A → Bool) (n : ℕ) where
  abbrev order_of : Forest A → List ℕ
  order_of f = order_tree key group on f

  count_order : (f : Forest A) → count n (order_of f) ≤ times key n f
  unfolding count times order_tree
  count_order forest.none = omega arith
  count_order (node x b a) =
      let all : count n (order_of (node x b a)) ≡ count n (pick (on x) (pick (group x) (order_of b) (key x ∷ order_of b)) []) + count n (order_of a) =
      count_append n (pick (on x) (pick (group x) (order_of b) (key x ∷ order_of b)) []) (order_of a) in
      let first = go (on x) (group x) (count_order b) in
      omega (arith, all, first, count_order a)
    where
      go : (o g : Bool) → count n (order_of b) ≤ times key n b → count n (pick o (pick g (order_of b) (key x ∷ order_of b)) []) ≤ one (eqb (key x) n) + times key n b
      go true true i = omega arith
      go true false i = omega arith
      go false g i = omega arith

  module _ (f : Forest A) (once : times key n f ≤ 1) where
    -- the answer, by the node
    by_node : (y : Option A) → node_of key n f ≡ y → reason key group on n f ≡ first_true key group on y (first_off key on (ancestors key n f)) (place_from1 n (order_of f))
    by_node y e = ap (λ (z : Option A). first_true key group on z (first_off key on (ancestors key n f)) (place_from1 n (order_of f))) e

    stands_runs : (x : A) → node_of key n f ≡ some x → group x ≡ false → on x ≡ true → listed n (order_of f) ≡ all_on key on (ancestors key n f)
    stands_runs x e g o = order_runs key group on n f once ∙ ap (λ (y : Option A). runs key group on y (ancestors key n f)) e ∙ rw (g, o)

    -- the answer holds
    pub true_reason : Holds key group on (reason key group on n f) n f
    true_reason = go (node_of key n f) refl
      where
        at : (r : Reason) → reason key group on n f ≡ r → Holds key group on r n f → Holds key group on (reason key group on n f) n f
        at r e h = subst (λ (q : Reason). Holds key group on q n f) (sym e) h

        voice : (x : A) → node_of key n f ≡ some x → group x ≡ false → on x ≡ true → (y : Option ℕ) → first_off key on (ancestors key n f) ≡ y → (b : Bool) → all_on key on (ancestors key n f) ≡ b
            → Holds key group on (reason key group on n f) n f
        voice x e g o (some m) u b v =
            at (AncestorOff m) (by_node (some x) e ∙ rw (g, o, u)) (x, e, g, o, off_split key on (ancestors key n f) m u)
        voice x e g o none u true v =
            at (Running (place_from1 n (order_of f))) (by_node (some x) e ∙ rw (g, o, u)) (stands_split n (order_of f) (stands_runs x e g o ∙ v))
        voice x e g o none u false v = absurd (clash (one_off key on (ancestors key n f) v))
          where
            clash : (m : ℕ) × (first_off key on (ancestors key n f) ≡ some m) → ⊥
            clash w = let z : ◌≡◌ {A = ℕ} 0 1 = ap (λ (y : Option ℕ). if_some y (λ k. 1) 0) (sym u ∙ w.1) in omega arith

        kind : (x : A) → node_of key n f ≡ some x → (p : Bool) → group x ≡ p → (o : Bool) → on x ≡ o → Holds key group on (reason key group on n f) n f
        kind x e true g o k = at Group (by_node (some x) e ∙ rw g) (x, e, g)
        kind x e false g false k = at Off (by_node (some x) e ∙ rw (g, k)) (x, e, g, k)
        kind x e false g true k = voice x e g k (first_off key on (ancestors key n f)) refl (all_on key on (ancestors key n f)) refl

        go : (y : Option A) → node_of key n f ≡ y → Holds key group on (reason key group on n f) n f
        go none e = at NoNode (by_node none e) e
        go (some x) e = kind x e (group x) refl (on x) refl

    -- and no other does
    pub one_reason : (r : Reason) → Holds key group on r n f → r ≡ reason key group on n f
    one_reason NoNode h = sym (by_node none h)
    one_reason Group h = sym (by_node (some h.0) h.1 ∙ rw h.2)
    one_reason Off h = sym (by_node (some h.0) h.1 ∙ rw (h.2, h.3))
    one_reason (AncestorOff m) h = sym (by_node (some h.0) h.1 ∙ rw (h.2, h.3, off_joined key on (ancestors key n f) m h.4))
    one_reason (Running k) h = go (node_of key n f) refl
      where
        fair : count n (h.front ++ n ∷ h.back) ≤ 1
        fair = rw (sym h.split) (omega (arith, count_order f))

        place : place_from1 n (order_of f) ≡ k
        place = ap (λ (l : List ℕ). place_from1 n l) h.split ∙ (one_place n h.front h.back fair).1 ∙ sym h.counted

        standing : runs key group on (node_of key n f) (ancestors key n f) ≡ true
        standing = sym (order_runs key group on n f once) ∙ ap (λ (l : List ℕ). listed n l) h.split ∙ (one_place n h.front h.back fair).0

        voice : (x : A) → node_of key n f ≡ some x → (p o : Bool) → group x ≡ p → on x ≡ o → pick p false (both o (all_on key on (ancestors key n f))) ≡ true → Running k ≡ reason key group on n f
        voice x e true o g u t = absurd (let z : ◌≡◌ {A = ℕ} 0 1 = cc in omega arith)
        voice x e false false g u t = absurd (let z : ◌≡◌ {A = ℕ} 0 1 = cc in omega arith)
        voice x e false true g u t = ap Running (sym place) ∙ sym (by_node (some x) e ∙ rw (g, u, all-on key on (ancestors key n f) t))

        go : (y : Option A) → node_of key n f ≡ y → Running k ≡ reason key group on n f
        go none e = absurd (let z : ◌≡◌ {A = Bool} false true = sym (ap (λ (y : Option A). runs key group on y (ancestors key n f)) e) ∙ standing in let q : ◌≡◌ {A = ℕ} 0 1 = cc in omega arith)
        go (some x) e = voice x e (group x) (on x) refl refl (sym (ap (λ (y : Option A). runs key group on y (ancestors key n f)) e) ∙ standing)
