-- The depths of a part of the table: how deep a record is, and how much deeper than the one before it.
use Rattle.std.specs.Prelude.{ℕ, zero, suc, ◌+◌, ◌*◌, ◌-◌, ◌≤◌, ◌<◌, Bool, true, false, ◌≡◌, length, drop, get_or, ltb, leb, eqb}
use Rattle.std.proofs.Common.{sym, ap, ap₂, subst, ◌∙◌, arith, ltb-true, leb-true}
use mathlib.Core.List.{List, [], ◌∷◌, nil≢cons, head-eq_of_cons-eq, tail-eq_of_cons-eq}
use Rattle.words.specs.Choice.{pick}
use Rattle.words.specs.ChoiceLaws.{both_true}
use Rattle.words.specs.Parts.{region}
use Rattle.nodes.specs.declared.Node.{Node}
use Rattle.nodes.specs.Place.{is_group}
use Rattle.nodes.specs.Formed.{reach, steps, rooted}
use Rattle.tree.specs.Shallow.{depth_most}
use Rattle.model.specs.Layout.{words_length, count_in, nodes_in, nodes_place, nodes_words, record_in}
use Rattle.state.specs.Known.{Known}
use Rattle.slots.specs.Slots.{part_word}
use Rattle.queries.specs.Held.{node-there}
use Rattle.nodes.specs.Table.{width, depth_field}
use Rattle.treequery.specs.RowArguments.{depth_at}

-- a node's place, and those behind it up to an end: below the root, and none more than one deeper than the one before it
pub record Nested (ws : List ℕ) (at end : ℕ) : Type 0 where
  pub size : length ws ≡ words_length
  pub few : end ≤ 256
  pub inside : at < end
  pub low : (i : ℕ) → i < end → depth_at ws i < 256
  pub below : (i : ℕ) → 0 < i → i < end → 0 < depth_at ws i
  pub next : (i : ℕ) → i + 1 < end → depth_at ws (i + 1) ≤ depth_at ws i + 1

-- by the words
pub depth_word : (ws : List ℕ) (i : ℕ) → i < 256 → get_or ws (nodes_place + width * i + depth_field) 0 ≡ depth_at ws i
depth_word ws i few =
    let place : nodes_place + (width * i + depth_field) ≡ nodes_place + width * i + 1 = omega arith in
    sym (part_word nodes_place nodes_words (width * i + depth_field) ws (omega arith) ∙ ap (λ (k : ℕ). get_or ws k 0) place)

-- a record s behind a record r
abbrev After : Node → Node → Type 0
After r s = (0 < s.depth) × (s.depth ≤ r.depth + 1)

reach_most : (b : Bool) (n : ℕ) → pick b (n + 1) n ≤ n + 1
reach_most true n = omega arith
reach_most false n = omega arith

first_after : (most : ℕ) (r s : Node) (rest : List Node) → most ≤ r.depth + 1 → steps most (s ∷ rest) ≡ true → After r s
unfolding steps
first_after most r s rest m h =
    let above = both_true (ltb 0 s.depth) _ h in
    (ltb-true 0 s.depth above.0, omega (arith, leb-true s.depth most (both_true (leb s.depth most) _ above.1).0))

-- in the records below the root, and in the whole table
steps_after : (most k : ℕ) (l : List Node) (r s : Node) (rest : List Node) → steps most l ≡ true → drop k l ≡ r ∷ (s ∷ rest) → After r s
unfolding steps
steps_after most zero [] r s rest h e = absurd (nil≢cons e)
steps_after most (suc k) [] r s rest h e = absurd (nil≢cons e)
steps_after most zero (x ∷ l) r s rest h e =
    let more = (both_true (leb x.depth most) (steps (reach x) l) (both_true (ltb 0 x.depth) _ h).1).1 in
    first_after (reach r) r s rest (reach_most (is_group r) r.depth)
    (ap₂ (λ (y : Node) (m : List Node). steps (reach y) m) (sym (head-eq_of_cons-eq e)) (sym (tail-eq_of_cons-eq e)) ∙ more)
steps_after most (suc k) (x ∷ l) r s rest h e =
    steps_after (reach x) k l r s rest (both_true (leb x.depth most) (steps (reach x) l) (both_true (ltb 0 x.depth) _ h).1).1 e

rooted_after : (k : ℕ) (t : List Node) (r s : Node) (rest : List Node) → rooted t ≡ true → drop k t ≡ r ∷ (s ∷ rest) → After r s
unfolding rooted
rooted_after zero [] r s rest h e = absurd (nil≢cons e)
rooted_after (suc k) [] r s rest h e = absurd (nil≢cons e)
rooted_after zero (x ∷ l) r s rest h e =
    let more = (both_true (is_group x) (steps 1 l) (both_true (eqb x.depth 0) _ (both_true (eqb x.number 0) _ h).1).1).1 in
    first_after 1 r s rest (omega arith) (ap (steps 1) (sym (tail-eq_of_cons-eq e)) ∙ more)
rooted_after (suc k) (x ∷ l) r s rest h e =
    steps_after 1 k l r s rest (both_true (is_group x) (steps 1 l) (both_true (eqb x.depth 0) _ (both_true (eqb x.number 0) _ h).1).1).1 e

-- of a well-formed state
module _ (ws bs : List ℕ) (k : Known ws bs) where
  after : (i : ℕ) → i + 1 < count_in ws → After (record_in ws i) (record_in ws (i + 1))
  after i h =
      rooted_after i (nodes_in ws) (record_in ws i) (record_in ws (i + 1)) (drop (i + 1 + 1) (nodes_in ws)) k.tree.root
      (node-there ws bs i (record { state = k; live = omega arith })
      ∙ ap (λ (l : List Node). record_in ws i ∷ l) (node-there ws bs (i + 1) (record { state = k; live = h })))

  pub nested : (at end : ℕ) → at < end → end ≤ count_in ws → Nested ws at end
  nested at end h most =
      let few = k.few in
      record {
        size = k.size;
        few = omega arith;
        inside = h;
        low = λ i l. omega (arith, depth_most (count_in ws) (region nodes_place nodes_words ws) k.tree.root i (omega arith));
        below = λ i some l.
            let on : i - 1 + 1 ≡ i = omega arith in
            subst (λ (j : ℕ). 0 < depth_at ws j) on (after (i - 1) (omega arith)).0;
        next = λ i l. (after i (omega arith)).1;
      }
