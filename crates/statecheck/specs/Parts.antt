-- The well-formed state by the parts that the functions here test.
use Rattle.std.specs.Prelude.{ℕ, ◌≤◌, ◌<◌, Bool, true, false, ◌≡◌, refl, List, length, take, leb}
use Rattle.std.proofs.Common.{sym, ap, ap₂, subst, ◌∙◌, arith}
use borrow.Author.Tests.{leb-true, eq-eqb, ne_eqb, le-leb, lt-leb}
use Rattle.words.specs.Choice.{both}
use Rattle.words.specs.ChoiceLaws.{both_true}
use Rattle.words.specs.Parts.{region}
use Rattle.words.specs.PartsLaws.{region-length}
use Rattle.nodes.specs.declared.Node.{Node}
use Rattle.nodes.specs.Table.{rows}
use Rattle.nodes.specs.Formed.{most_nodes}
use Rattle.nodes.specs.Formed as nodes
use Rattle.index.specs.Index.{indexed}
use Rattle.index.specs.Words.{IndexFits}
use Rattle.index.specs.Nodes.{indexed-apart}
use Rattle.model.specs.Layout.{words_length, arena_length, nodes_place, nodes_words, order_place, order_words, index_place, index_words, count_in, next_in, latest_in, order_length_in, lengths_in, flags_in, nodes_in, controls_in, entries_in}
use Rattle.model.specs.Engine.{decode}
use Rattle.model.specs.Formed.{formed, order_formed, flags_formed, slots_formed, names_apart, controls_formed}
use Rattle.state.specs.Known.{tree_known}
use Rattle.order.specs.Same.{same_order}
use Rattle.order.specs.Checks.{nodes_hold, formed_apart}
use Rattle.controls.specs.Ready.{Ready}

-- the records of the node region, and the region of the kept order
abbrev pub nodes_of : ℕ → List ℕ → List Node
nodes_of count ws = rows count (region nodes_place nodes_words ws)

abbrev pub kept_in : List ℕ → List ℕ
kept_in ws = region order_place order_words ws

-- the rules on nodes with a count, on the index, and on the kept order with its length
abbrev pub nodes_part : ℕ → List ℕ → Bool
nodes_part count ws = nodes.nodes_formed (next_in ws) (latest_in ws) (nodes_of count ws)

abbrev pub index_part : ℕ → List ℕ → Bool
index_part count ws = indexed (take count (entries_in ws)) (nodes_of count ws)

abbrev pub order_part : ℕ → ℕ → List ℕ → Bool
order_part many count ws = same_order (kept_in ws) many (nodes_of count ws)

-- the last three, with the count
abbrev pub lists_part : ℕ → List ℕ → Bool
lists_part count ws = both (nodes_part count ws) (both (index_part count ws) (order_part (order_length_in ws) count ws))

abbrev pub tree_part : List ℕ → Bool
tree_part ws = both (leb (count_in ws) most_nodes) (lists_part (count_in ws) ws)

-- the rules on nodes but that numbers differ, and the three as they are tested, where the index's rule says that too
abbrev pub hold_part : ℕ → List ℕ → Bool
hold_part count ws = nodes_hold (next_in ws) (latest_in ws) (nodes_of count ws)

abbrev pub tested_part : ℕ → List ℕ → Bool
tested_part count ws = both (hold_part count ws) (both (index_part count ws) (order_part (order_length_in ws) count ws))

-- the rules on slots, and on controls
abbrev pub slots_part : List ℕ → List ℕ → Bool
slots_part ws bs = both (flags_formed (flags_in ws)) (both (slots_formed 0 (lengths_in ws) (decode ws bs).slots (nodes_in ws)) (names_apart (decode ws bs).slots))

abbrev pub controls_part : List ℕ → List ℕ → Bool
controls_part ws bs = controls_formed (decode ws bs).slots (controls_in ws) (nodes_in ws)

-- a test that a later one implies need not be made
spared : (a b c d : Bool) → (c ≡ true → b ≡ true) → both (both a b) (both c d) ≡ both a (both c d)
spared true b true d h = rw (h refl)
spared true true false d h = refl
spared true false false d h = refl
spared false b c d h = refl

-- so that numbers differ need not: those that rise along the index do
pub lists_tested : (count : ℕ) (ws : List ℕ) → lists_part count ws ≡ tested_part count ws
lists_tested count ws =
    let t = nodes_of count ws in
    ap (λ (b : Bool). both b (both (index_part count ws) (order_part (order_length_in ws) count ws))) (formed_apart (next_in ws) (latest_in ws) t)
    ∙ spared (hold_part count ws) (nodes.apart t) (index_part count ws) (order_part (order_length_in ws) count ws) (indexed-apart (take count (entries_in ws)) t)

-- the tree's part, one test at a time
module _ (ws : List ℕ) (count : ℕ) (counted : count ≡ count_in ws) where
  pub tree_many : most_nodes < count → tree_part ws ≡ false
  tree_many h = ap (λ (b : Bool). both b (lists_part (count_in ws) ws)) (lt-leb (count_in ws) most_nodes (subst (λ (n : ℕ). most_nodes < n) counted h))

  pub tree_few : count ≤ most_nodes → tree_part ws ≡ tested_part count ws
  tree_few h =
      ap (λ (n : ℕ). both (leb n most_nodes) (lists_part n ws)) (sym counted) ∙ ap₂ both (le-leb count most_nodes h) (lists_tested count ws)

  pub tree_nodes : count ≤ most_nodes → hold_part count ws ≡ false → tree_part ws ≡ false
  tree_nodes h e = tree_few h ∙ ap (λ (b : Bool). both b (both (index_part count ws) (order_part (order_length_in ws) count ws))) e

  -- the regions that the index's test is lent
  pub index_fits : length ws ≡ words_length → count ≤ most_nodes → IndexFits (region nodes_place nodes_words ws) (entries_in ws) count
  index_fits size h =
      let nodes : length (region nodes_place nodes_words ws) ≡ nodes_words = region-length nodes_place nodes_words ws (omega arith) in
      let entries : length (entries_in ws) ≡ index_words = region-length index_place index_words ws (omega arith) in
      record { room = omega arith; few = h; entries = omega arith }

  module _ (h : count ≤ most_nodes) (e : hold_part count ws ≡ true) where
    pub tree_index : index_part count ws ≡ false → tree_part ws ≡ false
    tree_index i = tree_few h ∙ ap₂ (λ (b d : Bool). both b (both d (order_part (order_length_in ws) count ws))) e i

    pub tree_order : (many : ℕ) → many ≡ order_length_in ws → index_part count ws ≡ true → tree_part ws ≡ order_part many count ws
    tree_order many m i =
        tree_few h ∙ ap₂ (λ (b d : Bool). both b (both d (order_part (order_length_in ws) count ws))) e i ∙ ap (λ (n : ℕ). order_part n count ws) (sym m)

-- the tests one after the other, in three groups
regrouped : (a b c d e f g h : Bool) → both a (both b (both c (both d (both e (both f (both g h)))))) ≡ both (both a (both b (both c d))) (both (both e (both f g)) h)
regrouped true true true true true true g h = refl
regrouped true true true true true false g h = refl
regrouped true true true true false f g h = refl
regrouped true true true false e f g h = refl
regrouped true true false d e f g h = refl
regrouped true false c d e f g h = refl
regrouped false b c d e f g h = refl

-- the sizes, and then the parts, each tested where those before it passed
module _ (ws bs : List ℕ) where
  pub bad_size : (length ws ≡ words_length → ⊥) → formed ws bs ≡ false
  unfolding formed
  bad_size h = rw (ne_eqb (length ws) words_length h)

  pub bad_room : length ws ≡ words_length → (length bs ≡ arena_length → ⊥) → formed ws bs ≡ false
  unfolding formed
  bad_room size h = rw (eq-eqb (length ws) words_length size, ne_eqb (length bs) arena_length h)

module _ (ws bs : List ℕ) (size : length ws ≡ words_length) (room : length bs ≡ arena_length) where
  pub parts : formed ws bs ≡ both (tree_part ws) (both (slots_part ws bs) (controls_part ws bs))
  unfolding formed
  parts =
      rw (eq-eqb (length ws) words_length size, eq-eqb (length bs) arena_length room)
      (regrouped (leb (count_in ws) most_nodes) (nodes_part (count_in ws) ws) (index_part (count_in ws) ws) (order_formed ws (nodes_in ws)) (flags_formed (flags_in ws))
      (slots_formed 0 (lengths_in ws) (decode ws bs).slots (nodes_in ws)) (names_apart (decode ws bs).slots) (controls_part ws bs))

  pub bad_tree : tree_part ws ≡ false → formed ws bs ≡ false
  bad_tree h = parts ∙ ap (λ (b : Bool). both b (both (slots_part ws bs) (controls_part ws bs))) h

  pub good_tree : (a : Bool) → tree_part ws ≡ true → slots_part ws bs ≡ a → formed ws bs ≡ both a (controls_part ws bs)
  good_tree a h e = parts ∙ ap₂ (λ (b d : Bool). both b (both d (controls_part ws bs))) h e

  pub few : tree_part ws ≡ true → count_in ws ≤ most_nodes
  few h = leb-true (count_in ws) most_nodes (both_true (leb (count_in ws) most_nodes) _ h).0

  -- what is tested before the controls are
  pub ready : tree_part ws ≡ true → slots_part ws bs ≡ true → Ready ws bs
  ready tree slots =
      let t = both_true (leb (count_in ws) most_nodes) _ tree in
      let n = both_true (nodes_part (count_in ws) ws) _ t.1 in
      let s = both_true (flags_formed (flags_in ws)) _ slots in
      record {
        size = size;
        arena_size = room;
        few = few tree;
        fields = (tree_known (next_in ws) (latest_in ws) (nodes_in ws) n.0).fields;
        slots = (both_true (slots_formed 0 (lengths_in ws) (decode ws bs).slots (nodes_in ws)) (names_apart (decode ws bs).slots) s.1).0;
      }
