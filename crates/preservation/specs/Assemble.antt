-- A well-formed state put together from its parts.
use Rattle.std.specs.Prelude.{ℕ, ◌≤◌, Bool, true, ◌≡◌, refl, List, [], ◌∷◌, length, leb, eqb}
use Rattle.std.proofs.Common.{ap, ◌∙◌, le-leb, eq-eqb}
use Rattle.words.specs.Choice.{both}
use Rattle.format.specs.Reader.{same_name}
use Rattle.nodes.specs.declared.Node.{Node}
use Rattle.nodes.specs.Order.{order}
use Rattle.nodes.specs.Formed.{most_nodes}
use Rattle.nodes.specs.Formed as nodes
use Rattle.index.specs.Index.{indexed}
use Rattle.model.specs.Layout.{words_length, arena_length, count_in, next_in, latest_in, order_length_in, order_words, lengths_in, flags_in, nodes_in, order_in, controls_in, index_in}
use Rattle.model.specs.Engine.{Engine, decode}
use Rattle.model.specs.Formed.{formed, same_numbers, flags_formed, slots_formed, names_apart, controls_formed}
use Rattle.state.specs.Known.{Tree}

pub same_refl : (l : List ℕ) → same_name l l ≡ true
unfolding same_name
same_refl [] = refl
same_refl (x ∷ l) = rw (eq-eqb x x refl) (same_refl l)

-- the rules on nodes
pub tree-formed : (next latest : ℕ) (t : List Node) → Tree next latest t → nodes.nodes_formed next latest t ≡ true
unfolding nodes.nodes_formed
tree-formed next latest t k =
    rw (le-leb 1 (length t) k.some, le-leb (length t) most_nodes k.few, k.root, k.distinct, k.fields, k.rows_differ, k.next_right) k.latest_right

-- the whole state, from what its words decode to
pub record Whole (ws bs : List ℕ) (e : Engine) : Type 0 where
  pub size : length ws ≡ words_length
  pub arena_size : length bs ≡ arena_length
  pub decoded : decode ws bs ≡ e
  pub few : count_in ws ≤ most_nodes
  pub tree : nodes.nodes_formed e.next e.latest e.nodes ≡ true
  pub index : indexed (index_in ws) e.nodes ≡ true
  pub order_short : order_length_in ws ≤ order_words
  pub ordered : e.order ≡ order e.nodes
  pub flags : flags_formed (flags_in ws) ≡ true
  pub slots : slots_formed 0 (lengths_in ws) e.slots e.nodes ≡ true
  pub names : names_apart e.slots ≡ true
  pub controls : controls_formed e.slots e.controls e.nodes ≡ true

pub whole_formed : (ws bs : List ℕ) (e : Engine) → Whole ws bs e → formed ws bs ≡ true
unfolding formed decode
whole_formed ws bs e w =
    let ns : nodes_in ws ≡ e.nodes = ap (λ (x : Engine). x.nodes) w.decoded in
    let os : order_in ws ≡ order e.nodes = ap (λ (x : Engine). x.order) w.decoded ∙ w.ordered in
    let same : same_numbers (order_in ws) (order (nodes_in ws)) ≡ true = rw (os, ns) (same_refl (order e.nodes)) in
    let tree : nodes.nodes_formed (next_in ws) (latest_in ws) (nodes_in ws) ≡ true = ap (λ (x : Engine). nodes.nodes_formed x.next x.latest x.nodes) w.decoded ∙ w.tree in
    let index : indexed (index_in ws) (nodes_in ws) ≡ true = ap (λ (x : Engine). indexed (index_in ws) x.nodes) w.decoded ∙ w.index in
    let slots : slots_formed 0 (lengths_in ws) (decode ws bs).slots (nodes_in ws) ≡ true = ap (λ (x : Engine). slots_formed 0 (lengths_in ws) x.slots x.nodes) w.decoded ∙ w.slots in
    let names : names_apart (decode ws bs).slots ≡ true = ap (λ (x : Engine). names_apart x.slots) w.decoded ∙ w.names in
    let controls : controls_formed (decode ws bs).slots (controls_in ws) (nodes_in ws) ≡ true = ap (λ (x : Engine). controls_formed x.slots x.controls x.nodes) w.decoded ∙ w.controls in
    all (eqb (length ws) words_length) _ _ _ (indexed (index_in ws) (nodes_in ws)) (leb (order_length_in ws) order_words) _ _ _ _ _ (eq-eqb (length ws) words_length w.size) (eq-eqb (length bs) arena_length w.arena_size) (le-leb (count_in ws) most_nodes w.few) tree index
    (le-leb (order_length_in ws) order_words w.order_short) same w.flags slots names controls
  where
    all : (a b c d i e f g h j k : Bool) → a ≡ true → b ≡ true → c ≡ true → d ≡ true → i ≡ true → e ≡ true → f ≡ true → g ≡ true → h ≡ true → j ≡ true → k ≡ true
        → both a (both b (both c (both d (both i (both (both e f) (both g (both h (both j k)))))))) ≡ true
    all a b c d i e f g h j k p0 p1 p2 p3 p4 p5 p6 p7 p8 p9 p10 = rw (p0, p1, p2, p3, p4, p5, p6, p7, p8, p9) p10
