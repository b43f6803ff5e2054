-- What a state that passed the check is known to be, by parts.
use Rattle.std.specs.Prelude.{ℕ, ◌≤◌, true, ◌≡◌, List, length, leb, eqb}
use Rattle.std.proofs.Common.{leb-true, eqb-true}
use Rattle.words.specs.ChoiceLaws.{both_true}
use Rattle.nodes.specs.declared.Node.{Node}
use Rattle.nodes.specs.TableLaws.{rows-length}
use Rattle.nodes.specs.Order.{order}
use Rattle.nodes.specs.Formed.{most_nodes, count_formed, rooted, apart, all_formed, rows_apart, next_formed, latest_formed}
use Rattle.nodes.specs.Formed as nodes
use Rattle.index.specs.Index.{indexed}
use Rattle.model.specs.Layout.{words_length, arena_length, count_in, next_in, latest_in, order_length_in, order_words, lengths_in, flags_in, nodes_in, order_in, controls_in, index_in}
use Rattle.model.specs.Engine.{decode}
use Rattle.model.specs.Formed.{formed, order_formed, same_numbers, flags_formed, slots_formed, names_apart, controls_formed}

-- the rules on nodes, by name
pub record Tree (next latest : ℕ) (t : List Node) : Type 0 where
  pub some : 1 ≤ length t
  pub few : length t ≤ most_nodes
  pub root : rooted t ≡ true
  pub distinct : apart t ≡ true
  pub fields : all_formed next t ≡ true
  pub rows_differ : rows_apart t ≡ true
  pub next_right : next_formed next ≡ true
  pub latest_right : latest_formed latest t ≡ true

pub tree_known : (next latest : ℕ) (t : List Node) → nodes.nodes_formed next latest t ≡ true → Tree next latest t
unfolding nodes.nodes_formed
tree_known next latest t h =
    let a = both_true (count_formed t) _ h in
    let count = both_true (leb 1 (length t)) _ a.0 in
    let b = both_true (rooted t) _ a.1 in
    let d = both_true (apart t) _ b.1 in
    let f = both_true (all_formed next t) _ d.1 in
    let g = both_true (rows_apart t) _ f.1 in
    let k = both_true (next_formed next) _ g.1 in
    record {
      some = leb-true 1 (length t) count.0;
      few = leb-true (length t) most_nodes count.1;
      root = b.0;
      distinct = d.0;
      fields = f.0;
      rows_differ = g.0;
      next_right = k.0;
      latest_right = k.1;
    }

pub record Known (ws bs : List ℕ) : Type 0 where
  pub whole : formed ws bs ≡ true
  pub size : length ws ≡ words_length
  pub arena_size : length bs ≡ arena_length
  pub some : 1 ≤ count_in ws
  pub few : count_in ws ≤ most_nodes
  pub tree : Tree (next_in ws) (latest_in ws) (nodes_in ws)
  pub tree_formed : nodes.nodes_formed (next_in ws) (latest_in ws) (nodes_in ws) ≡ true
  pub index : indexed (index_in ws) (nodes_in ws) ≡ true
  pub order_short : order_length_in ws ≤ order_words
  pub order_same : same_numbers (order_in ws) (order (nodes_in ws)) ≡ true
  pub flags : flags_formed (flags_in ws) ≡ true
  pub slots : slots_formed 0 (lengths_in ws) (decode ws bs).slots (nodes_in ws) ≡ true
  pub names : names_apart (decode ws bs).slots ≡ true
  pub controls : controls_formed (decode ws bs).slots (controls_in ws) (nodes_in ws) ≡ true

pub known : (ws bs : List ℕ) → formed ws bs ≡ true → Known ws bs
unfolding formed
known ws bs h =
    let a = both_true (eqb (length ws) words_length) _ h in
    let b = both_true (eqb (length bs) arena_length) _ a.1 in
    let d = both_true (leb (count_in ws) most_nodes) _ b.1 in
    let f = both_true (nodes.nodes_formed (next_in ws) (latest_in ws) (nodes_in ws)) _ d.1 in
    let i = both_true (indexed (index_in ws) (nodes_in ws)) _ f.1 in
    let g = both_true (order_formed ws (nodes_in ws)) _ i.1 in
    let o = both_true (leb (order_length_in ws) order_words) _ g.0 in
    let k = both_true (flags_formed (flags_in ws)) _ g.1 in
    let l = both_true (slots_formed 0 (lengths_in ws) (decode ws bs).slots (nodes_in ws)) _ k.1 in
    let m = both_true (names_apart (decode ws bs).slots) _ l.1 in
    let t = tree_known (next_in ws) (latest_in ws) (nodes_in ws) f.0 in
    record {
      whole = h;
      size = eqb-true (length ws) words_length a.0;
      arena_size = eqb-true (length bs) arena_length b.0;
      some = rw rows-length at t.some;
      few = leb-true (count_in ws) most_nodes d.0;
      tree = t;
      tree_formed = f.0;
      index = i.0;
      order_short = leb-true (order_length_in ws) order_words o.0;
      order_same = o.1;
      flags = k.0;
      slots = l.0;
      names = m.0;
      controls = m.1;
    }
