-- Words of controls after a change: as many, and every mapping word that was at most 4,096 still is.
use Prim.Native.Nat.{ℕ, zero, suc, ◌+◌, ◌-◌, ◌*◌, ◌≤◌, ◌<◌, min}
use Rattle.std.specs.Prelude.{Bool, ◌≡◌, leb}
use Rattle.std.proofs.Math.Bool.{true, false}
use Rattle.std.proofs.Math.Path.{refl, ap}
use Rattle.std.proofs.Common.{ap₂, ◌∙◌, length-append, get_or-append-add, get_or-take, get_or-drop}
use mathlib.Core.List.{List, [], ◌∷◌, ◌++◌}
use Rattle.std.proofs.Math.Option.{Option, none, some}
use native.Mathlib.Omega.{arith}
use Rattle.std.proofs.Math.ListN.{length, take, drop, get_or, length-drop, take-append-drop, get_or-append}
use Rattle.std.proofs.Math.Seq.{length-take-le}
use Rattle.std.proofs.Math.Dec.{ltb}
use borrow.Author.Tests.{ltb-true, ltb-false, le-leb, leb-true}
use Rattle.words.specs.Choice.{pick, both}
use Rattle.words.specs.ChoiceLaws.{both_true}
use Rattle.format.specs.Bounds.{every}
use Rattle.format.specs.Names.{Covered}
use Rattle.nodes.specs.declared.Node.{Node}
use Rattle.nodes.specs.Place.{is_group}
use Rattle.nodes.specs.Formed.{most_rows, row_formed}
use Rattle.values.specs.declared.Key.{Key}
use Rattle.values.specs.Controls.{ControlValue, control_at, mapping_word}
use Rattle.model.specs.Layout.{row_words, bus_count, controls_words}
use Rattle.model.specs.Engine.{Slot, slot_at, definition_of}
use Rattle.model.specs.Meaning.{cover_of}
use Rattle.model.specs.Formed.{mappings_formed, controls_formed}
use Rattle.model.specs.Effects.{change_words, change_row, change_covered, change_all}
use Rattle.preservation.specs.Parameters.{few_parameters}
use Rattle.refinement.specs.Widths.{Inside, cover_inside}

-- every second word that was at most 4,096 is so after
pub record MappingsStayLow (after before : List ℕ) : Type 0 where
  pub low : (j : ℕ) → get_or before (2 * j + 1) 0 ≤ bus_count → get_or after (2 * j + 1) 0 ≤ bus_count

mild_same : {after before : List ℕ} → after ≡ before → MappingsStayLow after before
mild_same e = record { low = λ j h. rw e h }

mild_then : {a b c : List ℕ} → MappingsStayLow a b → MappingsStayLow b c → MappingsStayLow a c
mild_then f g = record { low = λ j h. f.low j (g.low j h) }

-- from an even place on
mild_drop : {after before : List ℕ} (m : ℕ) → MappingsStayLow after before → MappingsStayLow (drop (2 * m) after) (drop (2 * m) before)
mild_drop {after} {before} m f = record {
  low = λ j h.
      let e : 2 * m + (2 * j + 1) ≡ 2 * (m + j) + 1 = omega arith in
      let g : get_or before (2 * (m + j) + 1) 0 ≤ bus_count = rw (get_or-drop (2 * m) before (2 * j + 1) 0, e) at h in
      rw (get_or-drop (2 * m) after (2 * j + 1) 0, e) (f.low (m + j) g);
}

-- behind words that stay
mild_behind : (m : ℕ) (cs xs : List ℕ) → 2 * m ≤ length cs → MappingsStayLow xs (drop (2 * m) cs) → MappingsStayLow (take (2 * m) cs ++ xs) cs
mild_behind m cs xs fits f = record { low = λ j h. go j h (ltb j m) refl }
  where
    front : length (take (2 * m) cs) ≡ 2 * m
    front = length-take-le (2 * m) cs fits

    go : (j : ℕ) → get_or cs (2 * j + 1) 0 ≤ bus_count → (b : Bool) → ltb j m ≡ b → get_or (take (2 * m) cs ++ xs) (2 * j + 1) 0 ≤ bus_count
    go j h true e =
        let l : j < m = ltb-true j m e in
        rw (get_or-append (take (2 * m) cs) xs 0 (2 * j + 1) (omega (arith, front)), get_or-take (2 * m) cs (2 * j + 1) 0 (omega arith)) h
    go j h false e =
        let l : m ≤ j = ltb-false j m e in
        let i : 2 * j + 1 ≡ length (take (2 * m) cs) + (2 * (j - m) + 1) = omega (arith, front) in
        let i2 : 2 * m + (2 * (j - m) + 1) ≡ 2 * j + 1 = omega arith in
        let g : get_or (drop (2 * m) cs) (2 * (j - m) + 1) 0 ≤ bus_count = rw (get_or-drop (2 * m) cs (2 * (j - m) + 1) 0, i2) h in
        rw (i, get_or-append-add (take (2 * m) cs) xs (2 * (j - m) + 1) 0) (f.low (j - m) g)

-- the rule on controls
mappings_mild : (n : ℕ) (after before : List ℕ) → MappingsStayLow after before → mappings_formed n before ≡ true → mappings_formed n after ≡ true
unfolding mappings_formed
mappings_mild zero after before f h = refl
mappings_mild (suc n) after before f h =
    let w = both_true (leb (get_or before 1 0) bus_count) (mappings_formed n (drop 2 before)) h in
    ap₂ (λ (a b : Bool). both a b)
    (le-leb (get_or after 1 0) bus_count (f.low 0 (leb-true (get_or before 1 0) bus_count w.0)))
    (mappings_mild n (drop 2 after) (drop 2 before) (mild_drop 1 f) w.1)

pub controls_mild : (slots : List Slot) (after before : List ℕ) (t : List Node) → MappingsStayLow after before → controls_formed slots before t ≡ true → controls_formed slots after t ≡ true
unfolding controls_formed
controls_mild slots after before [] f h = refl
controls_mild slots after before (r ∷ l) f h =
    let w = both_true (pick (is_group r) true (mappings_formed (length (definition_of slots r).front.values) (drop (row_words * r.row) before))) _ h in
    ap₂ (λ (a b : Bool). both a b) (go (is_group r) w.0) (controls_mild slots after before l f w.1)
  where
    go : (g : Bool) → pick g true (mappings_formed (length (definition_of slots r).front.values) (drop (row_words * r.row) before)) ≡ true
        → pick g true (mappings_formed (length (definition_of slots r).front.values) (drop (row_words * r.row) after)) ≡ true
    go true h = refl
    go false h =
        let e : row_words * r.row ≡ 2 * (32 * r.row) = omega arith in
        mappings_mild (length (definition_of slots r).front.values) (drop (row_words * r.row) after) (drop (row_words * r.row) before) (rw e (mild_drop (32 * r.row) f)) h

-- a change after which every mapping is to a bus or none
pub record Right (f : ControlValue → ControlValue) : Type 0 where
  pub low : (v : ControlValue) → mapping_word (f v).mapping ≤ bus_count

module _ (f : ControlValue → ControlValue) (right : Right f) where
  change-length : (n : ℕ) (us : List ℕ) → 2 * n ≤ length us → length (change_words f n us) ≡ length us
  unfolding change_words
  change-length zero us h = refl
  change-length (suc n) us h =
      let rest : length (drop 2 us) ≡ length us - 2 = length-drop 2 us in
      omega (arith, change-length n (drop 2 us) (omega arith))

  change_mild : (n : ℕ) (us : List ℕ) → MappingsStayLow (change_words f n us) us
  unfolding change_words
  change_mild zero us = mild_same refl
  change_mild (suc n) us = record { low = λ j h. go j h (change_mild n (drop 2 us)) }
    where
      go : (j : ℕ) → get_or us (2 * j + 1) 0 ≤ bus_count → MappingsStayLow (change_words f n (drop 2 us)) (drop 2 us)
          → get_or (change_words f (suc n) us) (2 * j + 1) 0 ≤ bus_count
      go zero h ih = right.low (control_at (get_or us 0 0) (get_or us 1 0))
      go (suc j) h ih =
          let e : 2 * suc j + 1 ≡ 2 + (2 * j + 1) = omega arith in
          let g : get_or (drop 2 us) (2 * j + 1) 0 ≤ bus_count = rw (get_or-drop 2 us (2 * j + 1) 0) (rw e at h) in
          let next : 2 * suc j + 1 ≡ suc (suc (2 * j + 1)) = omega arith in
          rw next (ih.low j g)

  -- one row: its number is one of 256, and it has at most 32 controls
  module _ (row start many p : ℕ) (cs : List ℕ) (low : row < most_rows) (few : p ≤ 32) (inside : many ≤ p - start) (size : length cs ≡ controls_words) where
    row_changed : (length (change_row f row start many cs) ≡ controls_words) × MappingsStayLow (change_row f row start many cs) cs
    unfolding change_words
    row_changed = go (ltb start p) refl
      where
        go : (b : Bool) → ltb start p ≡ b → (length (change_row f row start many cs) ≡ controls_words) × MappingsStayLow (change_row f row start many cs) cs
        go true e =
            let l : start < p = ltb-true start p e in
            let even : row_words * row + 2 * start ≡ 2 * (32 * row + start) = omega arith in
            let us : List ℕ = drop (2 * (32 * row + start)) cs in
            let rest : length us ≡ length cs - 2 * (32 * row + start) = length-drop (2 * (32 * row + start)) cs in
            let front : length (take (2 * (32 * row + start)) cs) ≡ 2 * (32 * row + start) = length-take-le (2 * (32 * row + start)) cs (omega arith) in
            let long : length (change_words f many us) ≡ length us = change-length many us (omega arith) in (
              rw even (length-append (take (2 * (32 * row + start)) cs) (change_words f many us) ∙ omega arith),
              rw even (mild_behind (32 * row + start) cs (change_words f many us) (omega arith) (change_mild many us)),
            )
        go false e =
            let l : p ≤ start = ltb-false start p e in
            let none-left : many ≡ 0 = omega arith in
            let same : change_row f row start many cs ≡ cs =
            ap (λ (n : ℕ). take (row_words * row + 2 * start) cs ++ change_words f n (drop (row_words * row + 2 * start) cs)) none-left ∙ unchanged in
            (ap length same ∙ size, mild_same same)
          where
            unchanged : take (row_words * row + 2 * start) cs ++ change_words f 0 (drop (row_words * row + 2 * start) cs) ≡ cs
            unchanged = take-append-drop (row_words * row + 2 * start) cs

  -- every synth of some nodes whose rows are among 256
  pub all_changed : (key : Key) (bytes : List ℕ) (count : ℕ) (slots : List Slot) (t : List Node) → every row_formed t ≡ true → (cs : List ℕ) → length cs ≡ controls_words
      → (length (change_all f key bytes count slots t cs) ≡ controls_words) × MappingsStayLow (change_all f key bytes count slots t cs) cs
  unfolding change_all every
  all_changed key bytes count slots [] h cs size = (size, mild_same refl)
  all_changed key bytes count slots (r ∷ l) h cs size =
      let w = both_true (row_formed r) (every row_formed l) h in
      let first = go (is_group r) w.0 (cover_of key bytes (definition_of slots r)) (cover_inside key bytes (definition_of slots r)) in
      let rest = all_changed key bytes count slots l w.1 _ first.0 in
      (rest.0, mild_then rest.1 first.1)
    where
      go : (g : Bool) → pick g true (ltb r.row most_rows) ≡ true → (o : Option Covered) → Inside (length (definition_of slots r).front.values) o
          → (length (pick g cs (change_covered f o r.row count cs)) ≡ controls_words) × MappingsStayLow (pick g cs (change_covered f o r.row count cs)) cs
      go true q o i = (size, mild_same refl)
      go false q none i = (size, mild_same refl)
      go false q (some c) i =
          row_changed r.row c.index (min count c.width) (length (definition_of slots r).front.values) cs (ltb-true r.row most_rows q) (few_parameters (slot_at slots r.slot)) (omega arith) size
