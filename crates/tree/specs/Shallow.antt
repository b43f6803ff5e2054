-- What a well-formed table gives to the functions here: no record is deeper than its place, so that the sizes that they ask hold.
use Rattle.std.specs.Prelude.{ℕ, zero, suc, ◌+◌, ◌*◌, ◌-◌, ◌≤◌, ◌<◌, Bool, true, false, ◌≡◌, refl, length, drop, ltb, leb, eqb}
use Rattle.std.proofs.Common.{sym, ap, ◌∙◌, arith, drop-drop, leb-true, eqb-true, ltb-true, ltb-false}
use mathlib.Core.List.{List, [], ◌∷◌, nil≢cons, head-eq_of_cons-eq, tail-eq_of_cons-eq}
use Rattle.words.specs.Choice.{pick}
use Rattle.words.specs.ChoiceLaws.{both_true}
use Rattle.nodes.specs.declared.Node.{Node}
use Rattle.nodes.specs.Table.{width, node_from, rows}
use Rattle.nodes.specs.TableLaws.{row-from}
use Rattle.nodes.specs.Place.{is_group}
use Rattle.nodes.specs.Formed.{reach, steps, rooted}
use Rattle.nodes.specs.Sizes.{depth_at}
use Rattle.tree.specs.declared.action.Action.{Action}
use Rattle.tree.specs.Add.{Target, Room, grows}
use Rattle.tree.specs.Ends.{in_run, Moving, outside_run}

reach_most : (r : Node) → reach r ≤ r.depth + 1
reach_most r = go (is_group r)
  where
    go : (b : Bool) → pick b (r.depth + 1) r.depth ≤ r.depth + 1
    go true = omega arith
    go false = omega arith

steps_most : (most k : ℕ) (l : List Node) (r : Node) (rest : List Node) → steps most l ≡ true → drop k l ≡ r ∷ rest → r.depth ≤ most + k
unfolding steps
steps_most most zero [] r rest h e = absurd (nil≢cons e)
steps_most most zero (x ∷ l) r rest h e =
    let deep = both_true (leb x.depth most) (steps (reach x) l) (both_true (ltb 0 x.depth) _ h).1 in
    let same : x.depth ≡ r.depth = ap (λ (y : Node). y.depth) (head-eq_of_cons-eq e) in
    omega (arith, leb-true x.depth most deep.0)
steps_most most (suc k) [] r rest h e = absurd (nil≢cons e)
steps_most most (suc k) (x ∷ l) r rest h e =
    let deep = both_true (leb x.depth most) (steps (reach x) l) (both_true (ltb 0 x.depth) _ h).1 in
    omega (arith, leb-true x.depth most deep.0, reach_most x, steps_most (reach x) k l r rest deep.1 e)

rooted-list : (t : List Node) (r : Node) (l : List Node) → t ≡ r ∷ l → rooted t ≡ true → (r.depth ≡ 0) × (steps 1 l ≡ true)
unfolding rooted
rooted-list [] r l e h = absurd (nil≢cons e)
rooted-list (x ∷ k) r l e h =
    let inner = both_true (eqb x.depth 0) _ (both_true (eqb x.number 0) _ h).1 in (
      ap (λ (y : Node). y.depth) (sym (head-eq_of_cons-eq e)) ∙ eqb-true x.depth 0 inner.0,
      ap (λ (m : List Node). steps 1 m) (sym (tail-eq_of_cons-eq e)) ∙ (both_true (is_group x) (steps 1 k) inner.1).1,
    )

module _ (c : ℕ) (us : List ℕ) (root : rooted (rows c us) ≡ true) where
  pub depth_most : (i : ℕ) → i < c → depth_at us i ≤ i
  depth_most i h = go (ltb 0 i) refl
    where
      parts : (depth_at us 0 ≡ 0) × (steps 1 (drop 1 (rows c us)) ≡ true)
      parts = rooted-list (rows c us) (node_from us 0) (drop 1 (rows c us)) (row-from c us 0 (omega arith)) root

      go : (b : Bool) → ltb 0 i ≡ b → depth_at us i ≤ i
      go true q =
          let past = ltb-true 0 i q in
          let on : 1 + (i - 1) ≡ i = omega arith in
          let here : drop (i - 1) (drop 1 (rows c us)) ≡ node_from us (width * i) ∷ drop (i + 1) (rows c us) = drop-drop (i - 1) 1 (rows c us) ∙ ap (λ (k : ℕ). drop k (rows c us)) on ∙ row-from c us i h in
          omega (arith, steps_most 1 (i - 1) (drop 1 (rows c us)) (node_from us (width * i)) (drop (i + 1) (rows c us)) parts.1 here)
      go false q =
          let first : i ≡ 0 = omega (arith, ltb-false 0 i q) in
          let none : depth_at us i ≡ 0 = ap (λ (k : ℕ). depth_at us k) first ∙ parts.0 in
          omega arith

  module _ (room : width * c ≤ length us) (few : c ≤ 256) where
    pub target : (at : ℕ) → at < c → Target us c at
    target at live = record { room = room; few = few; live = live; shallow = omega (arith, depth_most at live) }

    pub moving : (a b : ℕ) → a < c → b < c → in_run c us b a ≡ false → Moving us c a b
    moving a b live target apart = record {
      room = room;
      few = few;
      live = live;
      target = target;
      outside = outside_run c us a b apart;
      shallow = λ i h. omega (arith, depth_most i h);
    }

  pub addable : (action : Action) (at : ℕ) → width * c + grows action ≤ length us → c ≤ 256 → at < c → Room us c action at
  addable action at room few live = record { room = room; few = few; live = live; shallow = omega (arith, depth_most at live) }
