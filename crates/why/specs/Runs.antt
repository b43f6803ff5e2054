-- A number stands in the running order exactly if it is of a synth that is on, with every ancestor on.
use Rattle.std.specs.Prelude.{ℕ, ◌+◌, ◌≤◌, ◌<◌, Bool}
use Rattle.std.proofs.Math.Bool.{true, false}
use Rattle.std.proofs.Math.Path.{◌≡◌, refl, sym, ap₂}
use Rattle.std.proofs.Common.{ap, ◌∙◌, arith}
use mathlib.Core.List.{List, [], ◌∷◌, ◌++◌}
use Rattle.std.proofs.Math.Option.{Option, none, some}
use Rattle.std.proofs.Math.Dec.{ltb, eqb}
use borrow.Author.Tests.{le-ltb, lt-ltb, ltb-true, ltb-false}
use Rattle.words.specs.Choice.{pick, both, either}
use Rattle.nodes.specs.Forest.{Forest, node, has}
use Rattle.nodes.specs.Forest as forest
use Rattle.nodes.specs.Order.{order_tree}
use Rattle.treerefinement.specs.Tally.{one}
use Rattle.treerefinement.specs.Flatten.{neither}
use Rattle.nodes.specs.Structure.{listed}
use Rattle.why.specs.Reasons.{node_of, ancestors, first_off}

stands_append : (n : ℕ) (a b : List ℕ) → listed n (a ++ b) ≡ either (listed n a) (listed n b)
unfolding listed
stands_append n [] b = refl
stands_append n (m ∷ a) b = ap (λ (q : Bool). either (eqb m n) q) (stands_append n a b) ∙ go (eqb m n)
  where
    go : (p : Bool) → either p (either (listed n a) (listed n b)) ≡ either (either p (listed n a)) (listed n b)
    go true = refl
    go false = refl

module _ {A : Type 0} (key : A → ℕ) where
  -- how many nodes have a number
  unfoldable pub times : ℕ → Forest A → ℕ
  times n forest.none = 0
  times n (node x b a) = one (eqb (key x) n) + (times n b + times n a)

  pub has-times : (n : ℕ) (f : Forest A) → has key n f ≡ ltb 0 (times n f)
  unfolding has times
  has-times n forest.none = refl
  has-times n (node x b a) =
      ap₂ (λ (u v : Bool). pick (eqb (key x) n) true (pick u true v)) (has-times n b) (has-times n a) ∙ go (eqb (key x) n) (ltb 0 (times n b)) (ltb 0 (times n a)) refl refl
    where
      go : (p u v : Bool) → ltb 0 (times n b) ≡ u → ltb 0 (times n a) ≡ v → pick p true (pick u true v) ≡ ltb 0 (one p + (times n b + times n a))
      go true u v e w = sym (lt-ltb 0 (1 + (times n b + times n a)) (omega arith))
      go false true v e w = let h = ltb-true 0 (times n b) e in sym (lt-ltb 0 (0 + (times n b + times n a)) (omega arith))
      go false false true e w = let h = ltb-true 0 (times n a) w in sym (lt-ltb 0 (0 + (times n b + times n a)) (omega arith))
      go false false false e w = let h = ltb-false 0 (times n b) e in let k = ltb-false 0 (times n a) w in sym (le-ltb 0 (0 + (times n b + times n a)) (omega arith))

  pub no_times : (n : ℕ) (f : Forest A) → times n f ≡ 0 → has key n f ≡ false
  no_times n f h = has-times n f ∙ le-ltb 0 (times n f) (omega arith)

  pub some_times : (n : ℕ) (f : Forest A) → has key n f ≡ true → 0 < times n f
  some_times n f h = ltb-true 0 (times n f) (sym (has-times n f) ∙ h)

  -- a number that no node has
  pub no_node : (n : ℕ) (f : Forest A) → has key n f ≡ false → node_of key n f ≡ none
  unfolding has node_of
  no_node n forest.none h = refl
  no_node n (node x b a) h =
      let w = neither (eqb (key x) n) (has key n b) (has key n a) h in
      ap₂ (λ (p q : Bool). pick p (some x) (pick q (node_of key n b) (node_of key n a))) w.0 w.1 ∙ no_node n a w.2

  pub a_node : (n : ℕ) (f : Forest A) → has key n f ≡ true → (x : A) × (node_of key n f ≡ some x)
  unfolding has node_of
  a_node n forest.none h = absurd (let z : ◌≡◌ {A = ℕ} 0 1 = cc in omega arith)
  a_node n (node x b a) h = go (eqb (key x) n) (has key n b) refl h (a_node n b) (a_node n a)
    where
      go : (p q : Bool) → has key n b ≡ q → pick p true (pick q true (has key n a)) ≡ true
          → (has key n b ≡ true → (y : A) × (node_of key n b ≡ some y)) → (has key n a ≡ true → (y : A) × (node_of key n a ≡ some y))
          → (y : A) × (pick p (some x) (pick q (node_of key n b) (node_of key n a)) ≡ some y)
      go true q e t i j = (x, refl)
      go false true e t i j = i e
      go false false e t i j = j t

module _ {A : Type 0} (key : A → ℕ) (on : A → Bool) where
  -- every one is on
  unfoldable pub all_on : List A → Bool
  all_on [] = true
  all_on (x ∷ l) = both (on x) (all_on l)

  pub all-on : (l : List A) → all_on l ≡ true → first_off key on l ≡ none
  unfolding all_on first_off
  all-on [] h = refl
  all-on (x ∷ l) h = go (on x) h (all-on l)
    where
      go : (p : Bool) → both p (all_on l) ≡ true → (all_on l ≡ true → first_off key on l ≡ none) → pick p (first_off key on l) (some (key x)) ≡ none
      go true e ih = ih e
      go false e ih = cc

  pub one_off : (l : List A) → all_on l ≡ false → (m : ℕ) × (first_off key on l ≡ some m)
  unfolding all_on first_off
  one_off [] h = absurd (let z : ◌≡◌ {A = ℕ} 0 1 = cc in omega arith)
  one_off (x ∷ l) h = go (on x) h (one_off l)
    where
      go : (p : Bool) → both p (all_on l) ≡ false → (all_on l ≡ false → (m : ℕ) × (first_off key on l ≡ some m)) → (m : ℕ) × (pick p (first_off key on l) (some (key x)) ≡ some m)
      go true e ih = ih e
      go false e ih = (key x, refl)

module _ {A : Type 0} (key : A → ℕ) (group on : A → Bool) where
  -- the synth is on, and every ancestor
  abbrev pub runs : Option A → List A → Bool
  runs none l = false
  runs (some x) l = pick (group x) false (both (on x) (all_on key on l))

  abbrev order_of : Forest A → List ℕ
  order_of f = order_tree key group on f

  -- what no node has does not stand in the order
  none_stands : (n : ℕ) (f : Forest A) → times key n f ≡ 0 → listed n (order_of f) ≡ false
  unfolding times order_tree listed
  none_stands n forest.none h = refl
  none_stands n (node x b a) h =
      stands_append n (pick (on x) (pick (group x) (order_of b) (key x ∷ order_of b)) []) (order_of a)
      ∙ go (on x) (group x) (eqb (key x) n) refl h (λ e. none_stands n b e) (λ e. none_stands n a e)
    where
      go : (o g p : Bool) → eqb (key x) n ≡ p → one p + (times key n b + times key n a) ≡ 0 → (times key n b ≡ 0 → listed n (order_of b) ≡ false) → (times key n a ≡ 0 → listed n (order_of a) ≡ false)
          → either (listed n (pick o (pick g (order_of b) (key x ∷ order_of b)) [])) (listed n (order_of a)) ≡ false
      go o g true e t i j = absurd (omega arith)
      go false g false e t i j = j (omega arith)
      go true true false e t i j = rw (i (omega arith), j (omega arith))
      go true false false e t i j = rw (e, i (omega arith), j (omega arith))

  pub order_runs : (n : ℕ) (f : Forest A) → times key n f ≤ 1 → listed n (order_of f) ≡ runs (node_of key n f) (ancestors key n f)
  unfolding times order_tree listed node_of ancestors all_on
  order_runs n forest.none h = refl
  order_runs n (node x b a) h =
      stands_append n (pick (on x) (pick (group x) (order_of b) (key x ∷ order_of b)) []) (order_of a)
      ∙ go (on x) refl (group x) refl (eqb (key x) n) (has key n b) refl refl h (order_runs n b) (order_runs n a)
    where
      inner : (y : Option A) (l : List A) (o : Bool) → on x ≡ o → runs y (x ∷ l) ≡ pick o (runs y l) false
      inner none l true e = refl
      inner none l false e = refl
      inner (some y) l true e = rw e
      inner (some y) l false e = rw e (last (group y) (on y))
        where
          last : (g o : Bool) → pick g false (both o false) ≡ false
          last true o = refl
          last false true = refl
          last false false = refl

      right : (p : Bool) → either p false ≡ p
      right true = refl
      right false = refl

      go : (o : Bool) → on x ≡ o → (g : Bool) → group x ≡ g → (p q : Bool) → eqb (key x) n ≡ p → has key n b ≡ q → one p + (times key n b + times key n a) ≤ 1
          → (times key n b ≤ 1 → listed n (order_of b) ≡ runs (node_of key n b) (ancestors key n b))
          → (times key n a ≤ 1 → listed n (order_of a) ≡ runs (node_of key n a) (ancestors key n a))
          → either (listed n (pick o (pick g (order_of b) (key x ∷ order_of b)) [])) (listed n (order_of a))
          ≡ runs (pick p (some x) (pick q (node_of key n b) (node_of key n a))) (pick p [] (pick q (x ∷ ancestors key n b) (ancestors key n a)))
      -- the node itself
      go o d g e true q k u t i j =
          let out_b : listed n (order_of b) ≡ false = none_stands n b (omega arith) in
          let out_a : listed n (order_of a) ≡ false = none_stands n a (omega arith) in
          rw (out_a, d, e) (self o g k out_b)
        where
          self : (o g : Bool) → eqb (key x) n ≡ true → listed n (order_of b) ≡ false → either (listed n (pick o (pick g (order_of b) (key x ∷ order_of b)) [])) false ≡ pick g false (both o true)
          self true true k z = rw z
          self true false k z = rw k
          self false true k z = refl
          self false false k z = refl
      -- below it
      go o d g e false true k u t i j =
          let some : 0 < times key n b = some_times key n b u in
          let out_a : listed n (order_of a) ≡ false = none_stands n a (omega arith) in
          rw out_a (right (listed n (pick o (pick g (order_of b) (key x ∷ order_of b)) [])) ∙ below o g ∙ sym (inner (node_of key n b) (ancestors key n b) o d))
        where
          below : (o g : Bool) → listed n (pick o (pick g (order_of b) (key x ∷ order_of b)) []) ≡ pick o (runs (node_of key n b) (ancestors key n b)) false
          below true true = i (omega arith)
          below true false = rw k (i (omega arith))
          below false g = refl
      -- after it
      go o d g e false false k u t i j =
          let out_b : listed n (order_of b) ≡ false = none_stands n b (zero-times u) in
          rw (first o g out_b) (j (omega arith))
        where
          zero-times : has key n b ≡ false → times key n b ≡ 0
          zero-times w = let z : times key n b ≤ 0 = ltb-false 0 (times key n b) (sym (has-times key n b) ∙ w) in omega arith

          first : (o g : Bool) → listed n (order_of b) ≡ false → listed n (pick o (pick g (order_of b) (key x ∷ order_of b)) []) ≡ false
          first true true z = z
          first true false z = rw (k, z)
          first false g z = refl
