-- The rule on controls is kept by edits of the nodes, and by a new synth's row of initial values.
use Rattle.std.specs.Prelude.{ℕ, zero, suc, ◌+◌, ◌*◌, ◌≤◌, ◌<◌, Bool, true, ◌≡◌, length, take, drop, ltb, leb, eqb}
use Rattle.std.proofs.Math.Bool.{false}
use Rattle.std.proofs.Math.Path.{refl, ap₂}
use Rattle.std.proofs.Common.{sym, ap, ◌∙◌, arith, drop_at, length-take-le, ltb-true, ltb-false}
use mathlib.Core.List.{List, [], ◌∷◌, ◌++◌}
use Rattle.std.proofs.lemmas.Bool.{eqb-false}
use Rattle.words.specs.Choice.{pick, both}
use Rattle.words.specs.ChoiceLaws.{both_true, either_false}
use Rattle.words.specs.Parts.{region, put, over}
use Rattle.format.specs.Bounds.{every}
use Rattle.nodes.specs.declared.Node.{Node}
use Rattle.nodes.specs.Place.{group_slot, is_group}
use Rattle.nodes.specs.Formed.{most_rows, number_formed, row_formed, fields_formed, all_formed, row_taken}
use Rattle.treerefinement.specs.Tally.{Grown}
use Rattle.model.specs.Layout.{row_words, bus_count, controls_words}
use Rattle.model.specs.Engine.{Slot, definition_of, definition_in, slot_at}
use Rattle.model.specs.Formed.{mappings_formed, controls_formed}
use Rattle.model.specs.Effects.{initial_words}
use Rattle.state.specs.Regions.{region_before, region_past, put_size}
use Rattle.preservation.specs.Parameters.{few_parameters}
use Rattle.preservation.specs.Every.{Fewer, every_fewer, every_grown}
use Rattle.words.specs.PartsLaws.{over_put}

-- what is asked of one node's controls
abbrev pub mapped : List Slot → List ℕ → Node → Bool
mapped slots controls r = pick (is_group r) true (mappings_formed (length (definition_of slots r).front.values) (drop (row_words * r.row) controls))

controls_every : (slots : List Slot) (controls : List ℕ) (t : List Node) → controls_formed slots controls t ≡ every (mapped slots controls) t
unfolding controls_formed every
controls_every slots controls [] = refl
controls_every slots controls (r ∷ l) = ap (λ (b : Bool). both (mapped slots controls r) b) (controls_every slots controls l)

module _ (slots : List Slot) (controls : List ℕ) {after before : List Node} where
  pub controls_fewer : Fewer after before → controls_formed slots controls before ≡ true → controls_formed slots controls after ≡ true
  controls_fewer f h =
      controls_every slots controls after
      ∙ every_fewer (mapped slots controls) (λ d r. refl) (λ flag r. refl) f (sym (controls_every slots controls before) ∙ h)

  pub controls_grown : (x : Node) → Grown (x ∷ []) after before → mapped slots controls x ≡ true → controls_formed slots controls before ≡ true → controls_formed slots controls after ≡ true
  controls_grown x g e h =
      controls_every slots controls after
      ∙ every_grown (mapped slots controls) (λ d r. refl) x g (sym (controls_every slots controls before) ∙ h) e

-- so many mappings are fact by twice as many words
mappings_front : (n m : ℕ) (us : List ℕ) → n + n ≤ m → mappings_formed n (take m us) ≡ mappings_formed n us
unfolding mappings_formed
mappings_front zero m us h = refl
mappings_front (suc n) zero us h = absurd (omega arith)
mappings_front (suc n) (suc zero) us h = absurd (omega arith)
mappings_front (suc n) (suc (suc m)) [] h = refl
mappings_front (suc n) (suc (suc m)) (u ∷ []) h = refl
mappings_front (suc n) (suc (suc m)) (u ∷ (v ∷ us)) h = ap (λ (b : Bool). both (leb v bus_count) b) (mappings_front n m us (omega arith))

-- initial values are unmapped
mappings_initial : (vs rest : List ℕ) → mappings_formed (length vs) (initial_words vs ++ rest) ≡ true
unfolding mappings_formed initial_words
mappings_initial [] rest = refl
mappings_initial (v ∷ vs) rest = mappings_initial vs rest

initial_length : (vs : List ℕ) → length (initial_words vs) ≡ length vs + length vs
unfolding initial_words
initial_length [] = refl
initial_length (v ∷ vs) = omega (arith, initial_length vs)

-- the values of a definition put in over a row
module _ (slots : List Slot) (controls : List ℕ) (size : length controls ≡ controls_words) (slot row : ℕ) (low : row < most_rows) where
  abbrev values : List ℕ
  values = (definition_in (slot_at slots slot)).front.values

  abbrev pub started : List ℕ
  started = over (row_words * row) (initial_words values) controls

  short : length (initial_words values) ≤ row_words
  short = omega (arith, initial_length values, few_parameters (slot_at slots slot))

  pub started-length : length started ≡ controls_words
  started-length =
      ap length (over_put (row_words * row) (initial_words values) controls)
      ∙ put_size (row_words * row) (length (initial_words values)) (initial_words values) controls (omega (arith, short)) refl
      ∙ size

  -- in its own row
  pub started_mapped : (x : Node) → x.slot ≡ slot → x.row ≡ row → mapped slots started x ≡ true
  started_mapped x e f =
      ap₂ (λ (k j : ℕ). pick (eqb k group_slot) true (mappings_formed (length (definition_in (slot_at slots k)).front.values) (drop (row_words * j) started))) e f ∙ go (eqb slot group_slot)
    where
      words : drop (row_words * row) started ≡ initial_words values ++ drop (length (initial_words values)) (drop (row_words * row) controls)
      words =
          ap (λ (l : List ℕ). drop (row_words * row) l) (over_put (row_words * row) (initial_words values) controls)
          ∙ drop_at (take (row_words * row) controls) (initial_words values ++ drop (length (initial_words values)) (drop (row_words * row) controls)) (row_words * row) (length-take-le (row_words * row) controls (omega arith))

      go : (b : Bool) → pick b true (mappings_formed (length values) (drop (row_words * row) started)) ≡ true
      go true = refl
      go false = ap (λ (l : List ℕ). mappings_formed (length values) l) words ∙ mappings_initial values (drop (length (initial_words values)) (drop (row_words * row) controls))

  -- another row is as it was
  pub other_row : (k : ℕ) → k < most_rows → (k ≡ row → ⊥) → region (row_words * k) row_words started ≡ region (row_words * k) row_words controls
  other_row k h ne =
      ap (λ (l : List ℕ). region (row_words * k) row_words l) (over_put (row_words * row) (initial_words values) controls) ∙ go (ltb k row) refl
    where
      go : (b : Bool) → ltb k row ≡ b → region (row_words * k) row_words (put (row_words * row) (length (initial_words values)) (initial_words values) controls) ≡ region (row_words * k) row_words controls
      go true e =
          let less : k < row = ltb-true k row e in
          region_before (row_words * row) (length (initial_words values)) (initial_words values) controls (omega (arith, short)) refl (row_words * k) row_words (omega arith)
      go false e =
          let more : row ≤ k = ltb-false k row e in
          let most : row < k = omega arith in
          region_past (row_words * row) (length (initial_words values)) (initial_words values) controls (omega (arith, short)) refl (row_words * k) row_words (omega (arith, short))

  -- what a synth of another row has
  other_mapped : (next : ℕ) (r : Node) → fields_formed next r ≡ true → pick (is_group r) false (eqb r.row row) ≡ false → mapped slots controls r ≡ true → mapped slots started r ≡ true
  other_mapped next r f free h =
      let a = both_true (number_formed next r) _ f in
      let b = both_true (leb r.run 1) _ a.1 in
      let c = both_true (leb r.slot group_slot) (row_formed r) b.1 in
      go (is_group r) c.1 free h
    where
      p : ℕ
      p = length (definition_of slots r).front.values

      few : p + p ≤ row_words
      few = omega (arith, few_parameters (slot_at slots r.slot))

      go : (g : Bool) → pick g true (ltb r.row most_rows) ≡ true → pick g false (eqb r.row row) ≡ false → pick g true (mappings_formed p (drop (row_words * r.row) controls)) ≡ true
          → pick g true (mappings_formed p (drop (row_words * r.row) started)) ≡ true
      go true u v k = refl
      go false u v k =
          sym (mappings_front p row_words (drop (row_words * r.row) started) few)
          ∙ ap (λ (l : List ℕ). mappings_formed p l) (other_row r.row (ltb-true r.row most_rows u) (eqb-false r.row row v))
          ∙ mappings_front p row_words (drop (row_words * r.row) controls) few
          ∙ k

  pub others_mapped : (next : ℕ) (t : List Node) → all_formed next t ≡ true → row_taken row t ≡ false → controls_formed slots controls t ≡ true → controls_formed slots started t ≡ true
  unfolding all_formed row_taken controls_formed
  others_mapped next [] f free h = refl
  others_mapped next (r ∷ l) f free h =
      let a = both_true (fields_formed next r) (all_formed next l) f in
      let b = either_false (pick (is_group r) false (eqb r.row row)) (row_taken row l) free in
      let c = both_true (mapped slots controls r) (controls_formed slots controls l) h in
      ap₂ (λ (u v : Bool). both u v) (other_mapped next r a.0 b.0 c.0) (others_mapped next l a.1 b.1 c.1)
