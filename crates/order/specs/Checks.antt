-- The state's rules on nodes along the table: one step of each test, and its end.
use Rattle.std.specs.Prelude.{ℕ, ◌+◌, ◌*◌, ◌≤◌, ◌<◌, Bool, not, ◌≡◌, length, drop, get_or, ltb, leb, eqb}
use Rattle.std.proofs.Math.Bool.{true, false}
use Rattle.std.proofs.Math.Path.{refl, ap}
use mathlib.Core.List.{List, [], ◌∷◌}
use Rattle.std.proofs.Common.{arith}
use borrow.Author.Tests.{le-leb, lt-leb}
use Rattle.words.specs.Choice.{pick, both, either}
use Rattle.words.specs.ChoiceLaws.{both_true}
use Rattle.nodes.specs.declared.Node.{Node}
use Rattle.nodes.specs.Table.{width, node_from, rows, depth_field, slot_field}
use Rattle.nodes.specs.TableLaws.{rows_end, rows-length, row-from}
use Rattle.nodes.specs.Place.{group_slot}
use Rattle.nodes.specs.Formed.{first_given, last_given, most_rows, most_nodes, count_formed, reach, steps, rooted, apart, number_formed, fields_formed, row_formed, all_formed, rows_apart, next_formed, synth_lives, latest_formed, nodes_formed}
use Rattle.order.specs.Marks.{rows_formed, rows_hold}

-- a record's number, and its other fields, by the words
abbrev pub number_holds : ℕ → ℕ → ℕ → Bool
number_holds next number slot = either (ltb number last_given) (both (leb number first_given) (both (ltb next number) (pick (eqb slot group_slot) false true)))

abbrev pub fields_hold : ℕ → ℕ → ℕ → Bool
fields_hold run slot row = both (leb run 1) (both (leb slot group_slot) (pick (eqb slot group_slot) true (ltb row most_rows)))

module _ (n : ℕ) (us : List ℕ) where
  pub steps_turn : (most i : ℕ) → i < n → steps most (drop i (rows n us)) ≡ both (ltb 0 (get_or us (width * i + depth_field) 0)) (both (leb (get_or us (width * i + depth_field) 0) most) (steps (reach (node_from us (width * i))) (drop (i + 1) (rows n us))))
  unfolding steps
  steps_turn most i h = ap (λ (l : List Node). steps most l) (row-from n us i h)

  pub steps_end : (most i : ℕ) → n ≤ i → steps most (drop i (rows n us)) ≡ true
  unfolding steps
  steps_end most i h = ap (λ (l : List Node). steps most l) (rows_end n us i h)

  pub rooted_turn : 0 < n → rooted (rows n us) ≡ both (eqb (get_or us 0 0) 0) (both (eqb (get_or us 1 0) 0) (both (eqb (get_or us 3 0) 32) (steps 1 (drop 1 (rows n us)))))
  unfolding rooted
  rooted_turn h = ap rooted (row-from n us 0 h)

  pub fields_turn : (next i : ℕ) → i < n → all_formed next (drop i (rows n us)) ≡ both (fields_formed next (node_from us (width * i))) (all_formed next (drop (i + 1) (rows n us)))
  unfolding all_formed
  fields_turn next i h = ap (λ (l : List Node). all_formed next l) (row-from n us i h)

  pub fields_end : (next i : ℕ) → n ≤ i → all_formed next (drop i (rows n us)) ≡ true
  unfolding all_formed
  fields_end next i h = ap (λ (l : List Node). all_formed next l) (rows_end n us i h)

  pub latest_turn : (k i : ℕ) → i < n → synth_lives k (drop i (rows n us)) ≡ either (pick (eqb (get_or us (width * i + slot_field) 0) 32) false (eqb (get_or us (width * i) 0) k)) (synth_lives k (drop (i + 1) (rows n us)))
  unfolding synth_lives
  latest_turn k i h = ap (λ (l : List Node). synth_lives k l) (row-from n us i h)

  pub latest_end : (k i : ℕ) → n ≤ i → synth_lives k (drop i (rows n us)) ≡ false
  unfolding synth_lives
  latest_end k i h = ap (λ (l : List Node). synth_lives k l) (rows_end n us i h)

pub not_pick : (b : Bool) → not b ≡ pick b false true
not_pick true = refl
not_pick false = refl

-- where every record's fields hold, so do the rows by themselves
fields_rows : (next : ℕ) (t : List Node) → all_formed next t ≡ true → rows_formed t ≡ true
unfolding all_formed rows_formed
fields_rows next [] h = refl
fields_rows next (r ∷ l) h =
    let a = both_true (fields_formed next r) (all_formed next l) h in
    let b = both_true (number_formed next r) _ a.0 in
    let c = both_true (leb r.run 1) _ b.1 in
    let d = both_true (leb r.slot group_slot) (row_formed r) c.1 in
    rw d.1 (fields_rows next l a.1)

-- the rules on nodes, but for the one that no number stands twice
unfoldable pub nodes_hold : ℕ → ℕ → List Node → Bool
nodes_hold next latest t = both (count_formed t) (both (rooted t) (both (all_formed next t) (both (rows_apart t) (both (next_formed next) (latest_formed latest t)))))

module _ (next latest : ℕ) (t : List Node) where
  -- the rules together are these and that one
  pub formed_apart : nodes_formed next latest t ≡ both (nodes_hold next latest t) (apart t)
  unfolding nodes_formed nodes_hold
  formed_apart = last (count_formed t) (rooted t) (apart t) (both (all_formed next t) (both (rows_apart t) (both (next_formed next) (latest_formed latest t))))
    where
      last : (a b c d : Bool) → both a (both b (both c d)) ≡ both (both a (both b d)) c
      last true true true true = refl
      last true true true false = refl
      last true true false true = refl
      last true true false false = refl
      last true false c d = refl
      last false b c d = refl

  -- one after the other, where the count is in bounds
  pub hold_none : length t < 1 → nodes_hold next latest t ≡ false
  unfolding nodes_hold
  hold_none h = rw (lt-leb 1 (length t) h)

  pub hold_many : most_nodes < length t → nodes_hold next latest t ≡ false
  unfolding nodes_hold
  hold_many h = rw (le-leb 1 (length t) (omega arith), lt-leb (length t) most_nodes h)

  pub hold_some : 1 ≤ length t → length t ≤ most_nodes
      → nodes_hold next latest t ≡ both (rooted t) (both (all_formed next t) (both (rows_hold t) (both (next_formed next) (latest_formed latest t))))
  unfolding nodes_hold
  hold_some h few =
      rw (le-leb 1 (length t) h, le-leb (length t) most_nodes few)
      (ap (λ (b : Bool). both (rooted t) b) (go (all_formed next t) (fields_rows next t)))
    where
      go : (f : Bool) → (f ≡ true → rows_formed t ≡ true)
          → both f (both (rows_apart t) (both (next_formed next) (latest_formed latest t))) ≡ both f (both (rows_hold t) (both (next_formed next) (latest_formed latest t)))
      go true h = rw (h refl)
      go false h = refl

-- the rules together, by a table's count
pub ruleset by_rule = (hold_none, hold_many, hold_some, rows-length)
