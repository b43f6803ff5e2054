-- An ancestor in the list of a node's ancestors is one: the node lies below it, and its own ancestors are those before it in the list.
use Rattle.std.specs.Prelude.{ℕ, ◌+◌, ◌≤◌, ◌<◌, Bool, ◌≡◌}
use Rattle.std.proofs.Math.Bool.{true, false}
use Rattle.std.proofs.Math.Path.{refl, subst}
use Rattle.std.proofs.Common.{ap, arith, eq-eqb}
use mathlib.Core.List.{List, [], ◌∷◌, ◌++◌, nil≢cons, head-eq_of_cons-eq, tail-eq_of_cons-eq}
use Rattle.std.proofs.Math.Option.{some}
use Rattle.std.proofs.Math.Dec.{eqb}
use Rattle.words.specs.Choice.{pick}
use Rattle.nodes.specs.Forest.{Forest, node, has, below}
use Rattle.nodes.specs.Forest as forest
use Rattle.treerefinement.specs.Tally.{one}
use Rattle.why.specs.Reasons.{node_of, ancestors}
use Rattle.why.specs.Runs.{times, no_times, some_times}

module _ {A : Type 0} (key : A → ℕ) where
  pub record AncestorIn (n : ℕ) (f : Forest A) (above : List A) (y : A) : Type 0 where
    pub lives : has key (key y) f ≡ true
    pub itself : node_of key (key y) f ≡ some y
    pub ancestors_above : ancestors key (key y) f ≡ above
    pub holds : has key n (below key (key y) f) ≡ true

  empty : (above : List A) (y : A) (under : List A) → [] ≡ above ++ y ∷ under → ⊥
  empty [] y under e = nil≢cons e
  empty (x ∷ above) y under e = nil≢cons e

  times_less : (m : ℕ) (x : A) (b a : Forest A) → times key m (node x b a) ≤ 1 → (times key m b ≤ 1) × (times key m a ≤ 1)
  unfolding times
  times_less m x b a h = ((omega arith), (omega arith))

  -- where each number is of one node
  module _ (n : ℕ) where
    -- in a forest below x, and in one after it
    inner : (x : A) (b a : Forest A) (above : List A) (y : A) → times key (key y) (node x b a) ≤ 1 → AncestorIn n b above y → AncestorIn n (node x b a) (x ∷ above) y
    unfolding times has node_of ancestors below
    inner x b a above y once w = go (eqb (key x) (key y)) refl once (some_times key (key y) b w.lives)
      where
        go : (p : Bool) → eqb (key x) (key y) ≡ p → one p + (times key (key y) b + times key (key y) a) ≤ 1 → 0 < times key (key y) b → AncestorIn n (node x b a) (x ∷ above) y
        go true e h k = absurd (omega arith)
        go false e h k = record {
          lives = rw (e, w.lives);
          itself = rw (e, w.lives) w.itself;
          ancestors_above = rw (e, w.lives) (ap (λ (l : List A). x ∷ l) w.ancestors_above);
          holds = rw (e, w.lives) w.holds;
        }

    later : (x : A) (b a : Forest A) (above : List A) (y : A) → times key (key y) (node x b a) ≤ 1 → AncestorIn n a above y → AncestorIn n (node x b a) above y
    unfolding times has node_of ancestors below
    later x b a above y once w = go (eqb (key x) (key y)) refl once (some_times key (key y) a w.lives)
      where
        go : (p : Bool) → eqb (key x) (key y) ≡ p → one p + (times key (key y) b + times key (key y) a) ≤ 1 → 0 < times key (key y) a → AncestorIn n (node x b a) above y
        go true e h k = absurd (omega arith)
        go false e h k =
            let away : has key (key y) b ≡ false = no_times key (key y) b (omega arith) in
            record {
              lives = rw (e, away) w.lives;
              itself = rw (e, away) w.itself;
              ancestors_above = rw (e, away) w.ancestors_above;
              holds = rw (e, away) w.holds;
            }

    pub is_ancestor : (f : Forest A) → ((m : ℕ) → times key m f ≤ 1) → (above : List A) (y : A) (under : List A) → ancestors key n f ≡ above ++ y ∷ under → AncestorIn n f above y
    unfolding ancestors has node_of below
    is_ancestor forest.none once above y under e = absurd (empty above y under e)
    is_ancestor (node x b a) once above y under e =
        go (eqb (key x) n) (has key n b) refl above e
        (λ up q. is_ancestor b (λ m. (times_less m x b a (once m)).0) up y under q)
        (λ up q. is_ancestor a (λ m. (times_less m x b a (once m)).1) up y under q)
      where
        first : has key n b ≡ true → x ≡ y → AncestorIn n (node x b a) [] y
        first h q = subst (λ (z : A). AncestorIn n (node x b a) [] z) q (record {
          lives = rw (eq-eqb (key x) (key x) refl);
          itself = rw (eq-eqb (key x) (key x) refl);
          ancestors_above = rw (eq-eqb (key x) (key x) refl);
          holds = rw (eq-eqb (key x) (key x) refl) h;
        })

        go : (p q : Bool) → has key n b ≡ q → (up : List A) → pick p [] (pick q (x ∷ ancestors key n b) (ancestors key n a)) ≡ up ++ y ∷ under
            → ((up : List A) → ancestors key n b ≡ up ++ y ∷ under → AncestorIn n b up y)
            → ((up : List A) → ancestors key n a ≡ up ++ y ∷ under → AncestorIn n a up y)
            → AncestorIn n (node x b a) up y
        go true q h up k i j = absurd (empty up y under k)
        go false true h [] k i j = first h (head-eq_of_cons-eq k)
        go false true h (z ∷ up) k i j =
            subst (λ (w : A). AncestorIn n (node x b a) (w ∷ up) y) (head-eq_of_cons-eq k) (inner x b a up y (once (key y)) (i up (tail-eq_of_cons-eq k)))
        go false false h up k i j = later x b a up y (once (key y)) (j up k)
