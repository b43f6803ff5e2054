-- The rows of /g_queryTree's reply, and the arguments of each.
use Rattle.std.specs.Prelude.{ℕ, zero, suc, ◌+◌, ◌*◌, ◌≤◌, ◌<◌, Bool, true, false, ◌≡◌, refl, length, drop, get_or, leb}
use Rattle.std.proofs.Common.{sym, ap, ◌∙◌, arith, get_or-drop, leb-true}
use mathlib.Core.List.{List, [], ◌∷◌, ◌++◌, nil≢cons, head-eq_of_cons-eq}
use Rattle.words.specs.Choice.{pick}
use Rattle.words.specs.ChoiceLaws.{both_true}
use Rattle.words.specs.Parts.{region}
use Rattle.format.specs.Definition.{ParameterName, Definition}
use Rattle.nodes.specs.declared.Node.{Node}
use Rattle.nodes.specs.Table.{rows}
use Rattle.nodes.specs.TableLaws.{row-from, rows_end}
use Rattle.nodes.specs.Place.{is_group}
use Rattle.nodes.specs.Structure.{no_node}
use Rattle.osc.specs.Message.{Argument, int, text}
use Rattle.values.specs.Controls.{ControlValue}
use Rattle.model.specs.Layout.{bus_count, row_words, nodes_in, nodes_place, nodes_words, controls_in, record_in}
use Rattle.model.specs.Engine.{Slot, decode, definition_of, controls_from, controls_of}
use Rattle.model.specs.View.{Row, view_rows}
use Rattle.model.specs.Formed.{mappings_formed, controls_formed}
use Rattle.model.specs.Replies.{control_arguments, flagged, kind_arguments, rows_below, rows_at, tree_arguments}
use Rattle.queries.specs.Held.{At, node-there}
use Rattle.queries.specs.Status.{kind_at}

-- the rows from one place to another, as the plain tree knows them
abbrev pub view_to : List ℕ → List ℕ → ℕ → ℕ → List Row
view_to ws bs end i = view_rows (decode ws bs).slots (controls_in ws) (drop i (rows end (region nodes_place nodes_words ws)))

abbrev pub depth_at : List ℕ → ℕ → ℕ
depth_at ws i = (record_in ws i).depth

-- the children of the node at the place i
abbrev pub children_at : List ℕ → List ℕ → ℕ → ℕ → ℕ
children_at ws bs end i = rows_at (depth_at ws i + 1) (rows_below (depth_at ws i) (view_to ws bs end (i + 1)))

unfoldable pub row_arguments : Bool → List ℕ → List ℕ → ℕ → ℕ → List Argument
row_arguments shown ws bs end i = int (record_in ws i).number ∷ kind_arguments shown (children_at ws bs end i) (kind_at ws bs i)

-- all rows from a place on: its own, and the rest
pub rows_turn : (shown : Bool) (ws bs : List ℕ) (end i : ℕ) → i < end
    → tree_arguments shown (view_to ws bs end i) ≡ row_arguments shown ws bs end i ++ tree_arguments shown (view_to ws bs end (i + 1))
unfolding tree_arguments view_rows row_arguments
rows_turn shown ws bs end i h =
    ap (λ (t : List Node). tree_arguments shown (view_rows (decode ws bs).slots (controls_in ws) t)) (row-from end (region nodes_place nodes_words ws) i h)

pub rows_none : (shown : Bool) (ws bs : List ℕ) (end i : ℕ) → end ≤ i → tree_arguments shown (view_to ws bs end i) ≡ []
unfolding tree_arguments view_rows
rows_none shown ws bs end i h =
    ap (λ (t : List Node). tree_arguments shown (view_rows (decode ws bs).slots (controls_in ws) t)) (rows_end end (region nodes_place nodes_words ws) i h)

-- the arguments of a group's row, and of a synth's
module _ (shown : Bool) (ws bs : List ℕ) (end i : ℕ) where
  pub row_group : is_group (record_in ws i) ≡ true → row_arguments shown ws bs end i ≡ int (record_in ws i).number ∷ (int (children_at ws bs end i) ∷ [])
  unfolding row_arguments
  row_group h = rw h

  abbrev d : Definition
  d = definition_of (decode ws bs).slots (record_in ws i)

  abbrev cs : List ControlValue
  cs = controls_of (decode ws bs).slots (controls_in ws) (record_in ws i)

  pub row_synth : is_group (record_in ws i) ≡ false → row_arguments shown ws bs end i ≡ int (record_in ws i).number ∷ (int no_node ∷ (text d.front.name ∷ flagged shown d cs))
  unfolding row_arguments
  row_synth h = rw h

-- as many controls as were asked for
pub controls_many : (n : ℕ) (us : List ℕ) → length (controls_from n us) ≡ n
unfolding controls_from
controls_many zero us = refl
controls_many (suc n) us = ap suc (controls_many n (drop 2 us))

pub controls_length : (i : ℕ) (names : List ParameterName) (l : List ControlValue) → length (control_arguments i names l) ≡ 2 * length l
unfolding control_arguments
controls_length i names [] = refl
controls_length i names (c ∷ l) = let e : length (control_arguments (i + 1) names l) ≡ 2 * length l = controls_length (i + 1) names l in omega arith

-- a mapping word of a synth's own controls is at most 4,096
mapping_few : (n j : ℕ) (us : List ℕ) → j < n → mappings_formed n us ≡ true → get_or us (2 * j + 1) 0 ≤ bus_count
unfolding mappings_formed
mapping_few zero j us h f = absurd (omega arith)
mapping_few (suc n) zero us h f = leb-true (get_or us 1 0) bus_count (both_true (leb (get_or us 1 0) bus_count) _ f).0
mapping_few (suc n) (suc j) us h f =
    let on : 2 + (2 * j + 1) ≡ 2 * suc j + 1 = omega arith in
    let same : get_or (drop 2 us) (2 * j + 1) 0 ≡ get_or us (2 * suc j + 1) 0 = get_or-drop 2 us (2 * j + 1) 0 ∙ ap (λ (k : ℕ). get_or us k 0) on in
    rw same at (mapping_few n j (drop 2 us) (omega arith) (both_true (leb (get_or us 1 0) bus_count) _ f).1)

formed_at : (slots : List Slot) (controls : List ℕ) (t : List Node) (i : ℕ) (r : Node) (rest : List Node) → drop i t ≡ r ∷ rest → controls_formed slots controls t ≡ true
    → pick (is_group r) true (mappings_formed (length (definition_of slots r).front.values) (drop (row_words * r.row) controls)) ≡ true
unfolding controls_formed
formed_at slots controls [] zero r rest e h = absurd (nil≢cons e)
formed_at slots controls [] (suc i) r rest e h = absurd (nil≢cons e)
formed_at slots controls (x ∷ t) zero r rest e h =
    ap (λ (y : Node). pick (is_group y) true (mappings_formed (length (definition_of slots y).front.values) (drop (row_words * y.row) controls))) (sym (head-eq_of_cons-eq e))
    ∙ (both_true (pick (is_group x) true (mappings_formed (length (definition_of slots x).front.values) (drop (row_words * x.row) controls))) _ h).0
formed_at slots controls (x ∷ t) (suc i) r rest e h =
    formed_at slots controls t i r rest e (both_true (pick (is_group x) true (mappings_formed (length (definition_of slots x).front.values) (drop (row_words * x.row) controls))) _ h).1

pub mapping_low : (ws bs : List ℕ) (i j : ℕ) → At ws bs i → is_group (record_in ws i) ≡ false → j < length (definition_of (decode ws bs).slots (record_in ws i)).front.values
    → get_or (controls_in ws) (row_words * (record_in ws i).row + 2 * j + 1) 0 ≤ bus_count
mapping_low ws bs i j a single h =
    let slots = (decode ws bs).slots in
    let formed : mappings_formed (length (definition_of slots (record_in ws i)).front.values) (drop (row_words * (record_in ws i).row) (controls_in ws)) ≡ true =
    rw single at (formed_at slots (controls_in ws) (nodes_in ws) i (record_in ws i) (drop (i + 1) (nodes_in ws)) (node-there ws bs i a) a.state.controls) in
    let on : row_words * (record_in ws i).row + (2 * j + 1) ≡ row_words * (record_in ws i).row + 2 * j + 1 = omega arith in
    let same : get_or (drop (row_words * (record_in ws i).row) (controls_in ws)) (2 * j + 1) 0 ≡ get_or (controls_in ws) (row_words * (record_in ws i).row + 2 * j + 1) 0 =
    get_or-drop (row_words * (record_in ws i).row) (controls_in ws) (2 * j + 1) 0 ∙ ap (λ (k : ℕ). get_or (controls_in ws) k 0) on in
    rw same at (mapping_few (length (definition_of slots (record_in ws i)).front.values) j (drop (row_words * (record_in ws i).row) (controls_in ws)) h formed)
