-- The rows, from one place of the table to another.
use Rattle.std.specs.Prelude.{ℕ, zero, suc, ◌+◌, ◌*◌, ◌≤◌, ◌<◌, Bool, true, false, ◌≡◌, refl, List, [], ◌∷◌, length, get_or, ltb}
use Rattle.std.proofs.Common.{sym, ap, ap₂, ◌∙◌, arith, length-append, ltb-true, ltb-false}
use Rattle.nodes.specs.Place.{is_group}
use Rattle.osc.specs.Message.{Argument, int, message}
use Rattle.model.specs.Layout.{count_in, nodes_place, nodes_words, record_in}
use Rattle.model.specs.Replies.{tree_address, flag_number, tree_arguments}
use Rattle.state.specs.Known.{Known}
use Rattle.slots.specs.Slots.{slot_bytes, part_word}
use Rattle.queries.specs.Held.{At, bounds}
use Rattle.nodes.specs.Table.{width}
use Rattle.treequery.specs.RowArguments.{row_arguments, children_at, view_to, row_group, rows_turn, rows_none}
use Rattle.treequery.specs.Places.{most_tags}
use Rattle.treequery.specs.SynthRow.{synth_row, synth-length}
use Rattle.treequery.specs.Shapes.{Shape, Shapes}

row_few : (shown : Bool) (ws bs : List ℕ) (end i : ℕ) → At ws bs i → length (row_arguments shown ws bs end i) ≤ 68
row_few shown ws bs end i a = go (is_group (record_in ws i)) refl
  where
    go : (b : Bool) → is_group (record_in ws i) ≡ b → length (row_arguments shown ws bs end i) ≤ 68
    go true e = rw (row_group shown ws bs end i e) (omega arith)
    go false e = synth-length ws bs i a e shown end

pub row_some : (shown : Bool) (ws bs : List ℕ) (end i : ℕ) → At ws bs i → 2 ≤ length (row_arguments shown ws bs end i)
row_some shown ws bs end i a = go (is_group (record_in ws i)) refl
  where
    go : (b : Bool) → is_group (record_in ws i) ≡ b → 2 ≤ length (row_arguments shown ws bs end i)
    go true e = rw (row_group shown ws bs end i e) (omega arith)
    go false e = rw (synth_row ws bs i a e shown end) (omega arith)

-- a group's row: its number and how many children it has
pub group_turn : (shown : Bool) (ws bs : List ℕ) (end i n children : ℕ) → is_group (record_in ws i) ≡ true → n ≡ (record_in ws i).number → children ≡ children_at ws bs end i
    → row_arguments shown ws bs end i ≡ int n ∷ (int children ∷ [])
group_turn shown ws bs end i n children e a b = row_group shown ws bs end i e ∙ ap₂ (λ (x y : ℕ). int x ∷ (int y ∷ [])) (sym a) (sym b)

-- a node's number, by the words
pub number_fact : (ws bs : List ℕ) (i : ℕ) → At ws bs i → get_or ws (nodes_place + width * i) 0 ≡ (record_in ws i).number
number_fact ws bs i a = sym (part_word nodes_place nodes_words (width * i) ws (omega (arith, (bounds ws bs i a).place)))

-- all rows from a place on
abbrev pub left_rows : Bool → List ℕ → List ℕ → ℕ → ℕ → List Argument
left_rows shown ws bs end i = tree_arguments shown (view_to ws bs end i)

-- the reply's message for the group at the place at, whose run ends at end
abbrev pub tree_message : Bool → List ℕ → List ℕ → ℕ → ℕ → List ℕ
tree_message shown ws bs end at =
    message tree_address (int (flag_number shown) ∷ (int (record_in ws at).number ∷ (int (children_at ws bs end at) ∷ left_rows shown ws bs end (at + 1))))

-- the rows from one place to another of a well-formed state
pub record Run (ws bs : List ℕ) (from end : ℕ) : Type 0 where
  pub state : Known ws bs
  pub order : from ≤ end
  pub ends : end ≤ count_in ws

pub run_at : (ws bs : List ℕ) (from end i : ℕ) → Run ws bs from end → i < end → At ws bs i
run_at ws bs from end i r h = record { state = r.state; live = omega (arith, r.ends) }

pub run_slot : (ws bs : List ℕ) (from end i : ℕ) → Run ws bs from end → i < end → is_group (record_in ws i) ≡ false → (record_in ws i).slot < 32
run_slot ws bs from end i r h single = (bounds ws bs i (run_at ws bs from end i r h)).slot single

rows_some : (n : ℕ) (shown : Bool) (ws bs : List ℕ) (from end i : ℕ) → Run ws bs from end → end ≤ i + n → length (left_rows shown ws bs end i) ≤ 68 * n
rows_some zero shown ws bs from end i r h = rw (rows_none shown ws bs end i (omega arith)) (omega arith)
rows_some (suc n) shown ws bs from end i r h = go (ltb i end) refl (rows_some n shown ws bs from end (i + 1) r (omega arith))
  where
    go : (b : Bool) → ltb i end ≡ b → length (left_rows shown ws bs end (i + 1)) ≤ 68 * n → length (left_rows shown ws bs end i) ≤ 68 * suc n
    go true e more =
        let low : i < end = ltb-true i end e in
        let size : length (left_rows shown ws bs end i) ≡ length (row_arguments shown ws bs end i) + length (left_rows shown ws bs end (i + 1)) =
        ap (length {A = Argument}) (rows_turn shown ws bs end i low) ∙ length-append (row_arguments shown ws bs end i) (left_rows shown ws bs end (i + 1)) in
        omega (arith, row_few shown ws bs end i (run_at ws bs from end i r low))
    go false e more = rw (rows_none shown ws bs end i (ltb-false i end e)) (omega arith)

pub rows_few : (shown : Bool) (ws bs : List ℕ) (from end : ℕ) → Run ws bs from end → length (left_rows shown ws bs end from) ≤ most_tags
rows_few shown ws bs from end r = rows_some 256 shown ws bs from end from r (omega (arith, r.ends, r.state.few))

-- a row of the part of the table that is shown
pub record RowOf (shown : Bool) (ws bs shapes : List ℕ) (end i : ℕ) : Type 0 where
  pub at : At ws bs i
  pub inside : i < end
  pub ends : end ≤ count_in ws
  pub shape : shown ≡ true → is_group (record_in ws i) ≡ false → Shape (slot_bytes ws bs (record_in ws i).slot) (record_in ws i).slot shapes

-- the whole part
pub record RowsOf (shown : Bool) (ws bs shapes : List ℕ) (from end : ℕ) : Type 0 where
  pub run : Run ws bs from end
  pub fact : shown ≡ true → Shapes ws bs from end shapes

pub row_of : (shown : Bool) (ws bs shapes : List ℕ) (from end i : ℕ) → RowsOf shown ws bs shapes from end → from ≤ i → i < end → RowOf shown ws bs shapes end i
row_of shown ws bs shapes from end i r low h = record {
  at = run_at ws bs from end i r.run h;
  inside = h;
  ends = r.run.ends;
  shape = λ on single. r.fact on i low h single;
}
