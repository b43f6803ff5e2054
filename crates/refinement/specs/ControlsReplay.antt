-- `/n_set`, `/n_fill` and `/n_map`: the engine and the plain tree after them are the same again.
use Prim.{Unit, tt}
use Rattle.std.specs.Prelude.{ℕ, ◌+◌, ◌*◌, ◌≤◌, ◌<◌, min, Bool, ◌≡◌, length, take, drop, ltb, leb}
use Rattle.std.proofs.Math.Bool.{true, false, not}
use Rattle.std.proofs.Math.Path.{refl, sym, ap}
use Rattle.std.proofs.Common.{ap₂, ◌∙◌, arith, drop_of_length-le}
use mathlib.Core.List.{List, [], ◌∷◌, ◌++◌}
use Rattle.std.proofs.Math.Option.{Option, none, some}
use borrow.Author.Tests.{ltb-true, ltb-false, eqb-false, eq-eqb, ne_eqb, not-true}
use Rattle.std.proofs.Math.Dec.{eqb}
use Rattle.words.specs.Choice.{pick, either}
use Rattle.words.specs.ChoiceLaws.{both_true, either_false}
use Rattle.words.specs.Parts.{region}
use Rattle.format.specs.Definition.{Definition}
use Rattle.format.specs.Names.{Covered}
use Rattle.nodes.specs.declared.Node.{Node}
use Rattle.nodes.specs.Place.{group_slot, is_group, lives}
use Rattle.nodes.specs.Edit.{level, run_of}
use Rattle.nodes.specs.Forest.{Forest, node, flatten, map_forest, has, subtree, edit}
use Rattle.nodes.specs.Forest as forest
use Rattle.nodes.specs.Formed.{most_rows, number_formed, row_formed, fields_formed, all_formed, row_taken, rows_apart, in_row}
use Rattle.treerefinement.specs.Flatten.{key, lives-has, run_tree}
use Rattle.treerefinement.specs.MapForest.{Each, map_each, map-map, map-has}
use Rattle.treerefinement.specs.Tally.{one, tally, IgnoresDepth, tally-append}
use Rattle.treerefinement.specs.Keep.{rows_few, few_rows}
use Rattle.preservation.specs.Parameters.{few_parameters}
use Rattle.values.specs.declared.Key.{Key}
use Rattle.values.specs.Controls.{ControlValue}
use Rattle.model.specs.Layout.{row_words, controls_words}
use Rattle.model.specs.Engine.{Slot, Engine, definition_of, slot_at, controls_from, controls_of}
use Rattle.model.specs.View.{Kind, group, synth, PlainNode, kind_in, view_of}
use Rattle.model.specs.Meaning.{cover_of}
use Rattle.model.specs.Effects.{change_covered, change_all, with_controls}
use Rattle.model.specs.Plain.{Plain, number_in, change_kind, change_node, change_below}
use Rattle.refinement.specs.Kept.{Kept, seen_tree}
use Rattle.refinement.specs.DefinitionsReplay.{each_more}
use Rattle.refinement.specs.SynthReplay.{controls_front}
use Rattle.refinement.specs.RowChange.{FitsWord, controls_many, row_length, row_other, row_own}
use Rattle.refinement.specs.Widths.{Inside, cover_inside, change_in, same_change}

-- of each record of a list
unfoldable pub AllOf : (Node → Type 0) → List Node → Type 0
AllOf P [] = Unit {0}
AllOf P (r ∷ l) = P r × AllOf P l

unfoldable pub AllRows : List Node → Type 0
AllRows [] = Unit {0}
AllRows (r ∷ l) = (row_formed r ≡ true) × AllRows l

pub both_of : {P Q R : Node → Type 0} → ((y : Node) → P y → Q y → R y) → (l : List Node) → AllOf P l → AllOf Q l → AllOf R l
unfolding AllOf
both_of g [] a b = tt
both_of g (y ∷ l) a b = (g y a.0 b.0, both_of g l a.1 b.1)

-- a change by one synth of the run
module _ (f : ControlValue → ControlValue) (fits_word : FitsWord f) (name : Key) (bytes : List ℕ) (count : ℕ) (slots : List Slot) where
  abbrev params : Node → ℕ
  params r = length (definition_of slots r).front.values

  abbrev cover : Node → Option Covered
  cover r = cover_of name bytes (definition_of slots r)

  ends : (r : Node) → Inside (params r) (cover r)
  ends r = cover_inside name bytes (definition_of slots r)

  abbrev step : Node → List ℕ → List ℕ
  step r cs = pick (is_group r) cs (change_covered f (cover r) r.row count cs)

  narrow : (r : Node) → params r + params r ≤ row_words
  narrow r = omega (arith, few_parameters (slot_at slots r.slot))

  step_length : (r : Node) (cs : List ℕ) → length cs ≡ controls_words → row_formed r ≡ true → length (step r cs) ≡ controls_words
  step_length r cs size low = go (is_group r) low (cover r) (ends r)
    where
      go : (g : Bool) → pick g true (ltb r.row most_rows) ≡ true → (o : Option Covered) → Inside (params r) o → length (pick g cs (change_covered f o r.row count cs)) ≡ controls_words
      go true l o i = size
      go false l none i = size
      go false l (some c) i = row_length f fits_word r.row c.index (min count c.width) (params r) cs size (ltb-true r.row most_rows l) (narrow r) (omega arith)

  -- another row
  step_other : (r : Node) (cs : List ℕ) → length cs ≡ controls_words → row_formed r ≡ true → (k : ℕ) → k < most_rows → pick (is_group r) false (eqb r.row k) ≡ false
      → region (row_words * k) row_words (step r cs) ≡ region (row_words * k) row_words cs
  step_other r cs size low k h free = go (is_group r) low free (cover r) (ends r)
    where
      go : (g : Bool) → pick g true (ltb r.row most_rows) ≡ true → pick g false (eqb r.row k) ≡ false → (o : Option Covered) → Inside (params r) o
          → region (row_words * k) row_words (pick g cs (change_covered f o r.row count cs)) ≡ region (row_words * k) row_words cs
      go true l v o i = refl
      go false l v none i = refl
      go false l v (some c) i =
          row_other f fits_word r.row c.index (min count c.width) (params r) cs size (ltb-true r.row most_rows l) (narrow r) (omega arith) k h (λ e. eqb-false r.row k v (sym e))

  -- the synth's own controls
  push : (d : Definition) (cs : List ControlValue) → length cs ≡ length d.front.values → (g : Bool)
      → change_kind f name bytes count (pick g group (synth d cs)) ≡ pick g group (synth d (change_in f (cover_of name bytes d) count cs))
  push d cs many true = refl
  push d cs many false = ap (λ (c : List ControlValue). synth d c) (same_change f name bytes count d cs many)

  step_own : (r : Node) (cs : List ℕ) → length cs ≡ controls_words → row_formed r ≡ true → kind_in slots (step r cs) r ≡ change_kind f name bytes count (kind_in slots cs r)
  step_own r cs size low =
      go (is_group r) low (cover r) (ends r) ∙ sym (push (definition_of slots r) (controls_of slots cs r) (controls_many (params r) (drop (row_words * r.row) cs)) (is_group r))
    where
      go : (g : Bool) → pick g true (ltb r.row most_rows) ≡ true → (o : Option Covered) → Inside (params r) o
          → pick g group (synth (definition_of slots r) (controls_from (params r) (drop (row_words * r.row) (pick g cs (change_covered f o r.row count cs)))))
          ≡ pick g group (synth (definition_of slots r) (change_in f o count (controls_from (params r) (drop (row_words * r.row) cs))))
      go true l o i = refl
      go false l none i = refl
      go false l (some c) i =
          ap (λ (c : List ControlValue). synth (definition_of slots r) c)
          (row_own f fits_word r.row c.index (min count c.width) (params r) cs size (ltb-true r.row most_rows l) (narrow r) (omega arith))

  -- a synth whose row's words are the same is seen alike
  pub kind_same : (y : Node) (a b : List ℕ) → (is_group y ≡ false → region (row_words * y.row) row_words a ≡ region (row_words * y.row) row_words b) → kind_in slots a y ≡ kind_in slots b y
  kind_same y a b h = go (is_group y) h
    where
      go : (g : Bool) → (g ≡ false → region (row_words * y.row) row_words a ≡ region (row_words * y.row) row_words b)
          → pick g group (synth (definition_of slots y) (controls_of slots a y)) ≡ pick g group (synth (definition_of slots y) (controls_of slots b y))
      go true w = refl
      go false w =
          ap (λ (c : List ControlValue). synth (definition_of slots y) c)
          (sym (controls_front (params y) row_words (drop (row_words * y.row) a) (narrow y))
          ∙ ap (λ (l : List ℕ). controls_from (params y) l) (w refl)
          ∙ controls_front (params y) row_words (drop (row_words * y.row) b) (narrow y))

  -- rows that no synth of the run has
  pub all_other : (l : List Node) (cs : List ℕ) → length cs ≡ controls_words → AllRows l → (k : ℕ) → k < most_rows → row_taken k l ≡ false
      → region (row_words * k) row_words (change_all f name bytes count slots l cs) ≡ region (row_words * k) row_words cs
  unfolding change_all row_taken AllRows
  all_other [] cs size low k h free = refl
  all_other (r ∷ l) cs size low k h free =
      let w = either_false (pick (is_group r) false (eqb r.row k)) (row_taken k l) free in
      all_other l (step r cs) (step_length r cs size low.0) low.1 k h w.1 ∙ step_other r cs size low.0 k h w.0

  pub all_length : (l : List Node) (cs : List ℕ) → length cs ≡ controls_words → AllRows l → length (change_all f name bytes count slots l cs) ≡ controls_words
  unfolding change_all AllRows
  all_length [] cs size low = size
  all_length (r ∷ l) cs size low = all_length l (step r cs) (step_length r cs size low.0) low.1

  low_row : (r : Node) → row_formed r ≡ true → is_group r ≡ false → r.row < most_rows
  low_row r low g = ltb-true r.row most_rows (sym (ap (λ (b : Bool). pick b true (ltb r.row most_rows)) g) ∙ low)

  -- synths of a run are each changed once
  others-alike : (r : Node) (l : List Node) (cs : List ℕ) → length cs ≡ controls_words → row_formed r ≡ true → AllRows l → pick (is_group r) true (not (row_taken r.row l)) ≡ true
      → AllOf (λ (y : Node). kind_in slots (step r cs) y ≡ kind_in slots cs y) l
  unfolding AllOf AllRows row_taken
  others-alike r [] cs size low lows apart = tt
  others-alike r (y ∷ l) cs size low lows apart = (
    kind_same y (step r cs) cs (λ g. step_other r cs size low y.row (low_row y lows.0 g) (first (is_group r) apart g)),
    others-alike r l cs size low lows.1 (rest (is_group r) apart),
  )
    where
      first : (b : Bool) → pick b true (not (either (pick (is_group y) false (eqb y.row r.row)) (row_taken r.row l))) ≡ true → is_group y ≡ false → pick b false (eqb r.row y.row) ≡ false
      first true h g = refl
      first false h g =
          let w = either_false (pick (is_group y) false (eqb y.row r.row)) (row_taken r.row l) (not-true _ h) in
          let v : eqb y.row r.row ≡ false = sym (ap (λ (b : Bool). pick b false (eqb y.row r.row)) g) ∙ w.0 in
          ne_eqb r.row y.row (λ e. eqb-false y.row r.row v (sym e))

      rest : (b : Bool) → pick b true (not (either (pick (is_group y) false (eqb y.row r.row)) (row_taken r.row l))) ≡ true → pick b true (not (row_taken r.row l)) ≡ true
      rest true h = refl
      rest false h =
          let w = either_false (pick (is_group y) false (eqb y.row r.row)) (row_taken r.row l) (not-true _ h) in
          ap not w.1

  pub all_own : (l : List Node) (cs : List ℕ) → length cs ≡ controls_words → AllRows l → rows_apart l ≡ true
      → AllOf (λ (y : Node). kind_in slots (change_all f name bytes count slots l cs) y ≡ change_kind f name bytes count (kind_in slots cs y)) l
  unfolding change_all AllOf AllRows rows_apart
  all_own [] cs size low apart = tt
  all_own (r ∷ l) cs size low apart =
      let w = both_true (pick (is_group r) true (pick (row_taken r.row l) false true)) (rows_apart l) apart in
      let lone : pick (is_group r) true (not (row_taken r.row l)) ≡ true = ap (λ (b : Bool). pick (is_group r) true b) (flipped (row_taken r.row l)) ∙ w.0 in (
        kind_same r (change_all f name bytes count slots l (step r cs)) (step r cs)
            (λ g. all_other l (step r cs) (step_length r cs size low.0) low.1 r.row (low_row r low.0 g) (alone (is_group r) lone g))
            ∙ step_own r cs size low.0,
        both_of (λ y p q. p ∙ ap (λ (kd : Kind). change_kind f name bytes count kd) q) l (all_own l (step r cs) (step_length r cs size low.0) low.1 w.1) (others-alike r l cs size low.0 low.1 lone),
      )
    where
      flipped : (b : Bool) → not b ≡ pick b false true
      flipped true = refl
      flipped false = refl

      alone : (b : Bool) → pick b true (not (row_taken r.row l)) ≡ true → b ≡ false → row_taken r.row l ≡ false
      alone true h g = let z : ◌≡◌ {A = Bool} true false = g in cc
      alone false h g = not-true (row_taken r.row l) h

-- from the records of a tree to its items, and back
all_append : (P : Node → Type 0) (a b : List Node) → AllOf P (a ++ b) → AllOf P a × AllOf P b
unfolding AllOf
all_append P [] b h = (tt, h)
all_append P (r ∷ a) b h = let w = all_append P a b h.1 in ((h.0, w.0), w.1)

all_each : (P : Node → Type 0) → ((d : ℕ) (x : Node) → P (level d x) → P x) → (d : ℕ) (g : Forest Node) → AllOf P (flatten d g) → Each P g
unfolding AllOf Each flatten
all_each P same d forest.none h = tt
all_each P same d (node x b a) h =
    let w = all_append P (flatten (d + 1) b) (flatten d a) h.1 in
    (same d x h.0, all_each P same (d + 1) b w.0, all_each P same d a w.1)

rows_append : (a b : List Node) → AllRows a → AllRows b → AllRows (a ++ b)
unfolding AllRows
rows_append [] b h g = g
rows_append (r ∷ a) b h g = (h.0, rows_append a b h.1 g)

each_rows : (d : ℕ) (g : Forest Node) → Each (λ (y : Node). row_formed y ≡ true) g → AllRows (flatten d g)
unfolding AllRows Each flatten
each_rows d forest.none h = tt
each_rows d (node x b a) h = (h.0, rows_append (flatten (d + 1) b) (flatten d a) (each_rows (d + 1) b h.1) (each_rows d a h.2))

pub formed_rows : (next : ℕ) (t : List Node) → all_formed next t ≡ true → AllRows t
unfolding all_formed AllRows
formed_rows next [] h = tt
formed_rows next (r ∷ l) h =
    let a = both_true (fields_formed next r) (all_formed next l) h in
    let b = both_true (number_formed next r) _ a.0 in
    let c = both_true (leb r.run 1) _ b.1 in
    let e = both_true (leb r.slot group_slot) (row_formed r) c.1 in
    (e.1, formed_rows next l a.1)

pub rows_of : (l : List Node) → AllRows l → AllOf (λ (y : Node). row_formed y ≡ true) l
unfolding AllRows AllOf
rows_of [] h = tt
rows_of (r ∷ l) h = (h.0, rows_of l h.1)

each_subtree : (P : Node → Type 0) (n : ℕ) (g : Forest Node) → Each P g → Each P (subtree key n g)
unfolding Each subtree
each_subtree P n forest.none h = tt
each_subtree P n (node x b a) h = go (eqb x.number n) (has key n b) (each_subtree P n b h.1) (each_subtree P n a h.2)
  where
    go : (p q : Bool) → Each P (subtree key n b) → Each P (subtree key n a) → Each P (pick p (node x b forest.none) (pick q (subtree key n b) (subtree key n a)))
    go true q u v = (h.0, h.1, tt)
    go false true u v = u
    go false false u v = v

-- a tree has as many of anything at any depth
tally_flat : (q : Node → Bool) → IgnoresDepth q → (d e : ℕ) (g : Forest Node) → tally q (flatten d g) ≡ tally q (flatten e g)
unfolding tally flatten
tally_flat q ignores-depth d e forest.none = refl
tally_flat q ignores-depth d e (node x b a) =
    let s = tally-append q (flatten (e + 1) b) (flatten e a) in
    let r = tally-append q (flatten (d + 1) b) (flatten d a) in
    let o : one (q (level d x)) ≡ one (q (level e x)) = ap one (ignores-depth d x ∙ sym (ignores-depth e x)) in
    let u = tally_flat q ignores-depth (d + 1) (e + 1) b in
    let v = tally_flat q ignores-depth d e a in
    omega arith

-- a subtree has no more of anything than its tree
tally_sub : (q : Node → Bool) → IgnoresDepth q → (n d e : ℕ) (g : Forest Node) → tally q (flatten d (subtree key n g)) ≤ tally q (flatten e g)
unfolding tally subtree flatten
tally_sub q ignores-depth n d e forest.none = omega arith
tally_sub q ignores-depth n d e (node x b a) =
    go (eqb x.number n) (has key n b) (tally_sub q ignores-depth n d (e + 1) b) (tally_sub q ignores-depth n d e a) (tally_flat q ignores-depth (d + 1) (e + 1) b)
  where
    go : (p r : Bool) → tally q (flatten d (subtree key n b)) ≤ tally q (flatten (e + 1) b) → tally q (flatten d (subtree key n a)) ≤ tally q (flatten e a) → tally q (flatten (d + 1) b) ≡ tally q (flatten (e + 1) b)
        → tally q (flatten d (pick p (node x b forest.none) (pick r (subtree key n b) (subtree key n a)))) ≤ one (q (level e x)) + tally q (flatten (e + 1) b ++ flatten e a)
    go true r u v w =
        let o : one (q (level d x)) ≡ one (q (level e x)) = ap one (ignores-depth d x ∙ sym (ignores-depth e x)) in
        omega (arith, tally-append q (flatten (e + 1) b) (flatten e a), tally-append q (flatten (d + 1) b) [])
    go false true u v w = omega (arith, tally-append q (flatten (e + 1) b) (flatten e a))
    go false false u v w = omega (arith, tally-append q (flatten (e + 1) b) (flatten e a))

-- a row of which a list has none is not taken there
zero_taken : (k : ℕ) (l : List Node) → tally (in_row k) l ≡ 0 → row_taken k l ≡ false
unfolding tally row_taken
zero_taken k [] h = refl
zero_taken k (r ∷ l) h = go (λ g. zero_taken k l g) (in_row k r) refl
  where
    go : (tally (in_row k) l ≡ 0 → row_taken k l ≡ false) → (b : Bool) → in_row k r ≡ b → either b (row_taken k l) ≡ false
    go ih true e = let z : one (in_row k r) ≡ 1 = ap one e in absurd (omega arith)
    go ih false e = let z : one (in_row k r) ≡ 0 = ap one e in ih (omega arith)

-- items whose rows are not in a list
each_out : (L : List Node) (d : ℕ) (g : Forest Node) → ((r : ℕ) → 1 ≤ tally (in_row r) (flatten d g) → tally (in_row r) L ≡ 0) → Each (λ (y : Node). is_group y ≡ false → row_taken y.row L ≡ false) g
unfolding Each flatten tally
each_out L d forest.none h = tt
each_out L d (node x b a) h = (
  λ e. zero_taken x.row L
      (h x.row
      (let own : in_row x.row (level d x) ≡ true = ap (λ (g : Bool). pick g false (eqb x.row x.row)) e ∙ eq-eqb x.row x.row refl in
      let o : one (in_row x.row (level d x)) ≡ 1 = ap one own in
      omega arith)),
  each_out L (d + 1) b (λ r k. h r (omega (arith, tally-append (in_row r) (flatten (d + 1) b) (flatten d a)))),
  each_out L d a (λ r k. h r (omega (arith, tally-append (in_row r) (flatten (d + 1) b) (flatten d a)))),
)

-- the tree of records, seen after a change of the node n and all below it, is the change of the tree that was seen
module _ (look look' : Node → PlainNode) (g : PlainNode → PlainNode) (n : ℕ) (L : List Node) (named : (x : Node) → number_in (look x) ≡ key x)
    (out : (y : Node) → (is_group y ≡ false → row_taken y.row L ≡ false) → look' y ≡ look y) where
  outside : (d : ℕ) (f : Forest Node) → ((r : ℕ) → 1 ≤ tally (in_row r) (flatten d f) → tally (in_row r) L ≡ 0) → map_forest look' f ≡ map_forest look f
  outside d f h = map_each look' look f (each_more out f (each_out L d f h))

  pub seen_edit : (d : ℕ) (f : Forest Node) → has key n f ≡ true → Each (λ (y : Node). look' y ≡ g (look y)) (subtree key n f) → ((r : ℕ) → tally (in_row r) (flatten d f) ≤ 1)
      → ((r : ℕ) → tally (in_row r) L ≤ tally (in_row r) (flatten d (subtree key n f)))
      → map_forest look' f ≡ edit number_in n (λ x b a. node (g x) (map_forest g b) a) (map_forest look f)
  unfolding map_forest edit has subtree Each flatten tally
  seen_edit d forest.none t inner few cover = cc
  seen_edit d (node x b a) t inner few cover =
      go (eqb x.number n) refl (has key n b) refl t inner cover
      (λ h i c. seen_edit (d + 1) b h i (λ r. omega (arith, few r, tally-append (in_row r) (flatten (d + 1) b) (flatten d a))) c)
      (λ h i c. seen_edit d a h i (λ r. omega (arith, few r, tally-append (in_row r) (flatten (d + 1) b) (flatten d a))) c)
    where
      abbreviated : Forest PlainNode → Forest PlainNode
      abbreviated u = edit number_in n (λ x b a. node (g x) (map_forest g b) a) u

      here : eqb (number_in (look x)) n ≡ eqb x.number n
      here = ap (λ (k : ℕ). eqb k n) (named x)

      below : has number_in n (map_forest look b) ≡ has key n b
      below = map-has look key number_in named n b

      alone : (r : ℕ) → tally (in_row r) L ≤ tally (in_row r) (flatten d (node x b forest.none)) → 1 ≤ tally (in_row r) (flatten d a) → tally (in_row r) L ≡ 0
      alone r c k = omega (arith, few r, tally-append (in_row r) (flatten (d + 1) b) (flatten d a), tally-append (in_row r) (flatten (d + 1) b) [])

      go : (p : Bool) → eqb x.number n ≡ p → (q : Bool) → has key n b ≡ q → pick p true (pick q true (has key n a)) ≡ true
          → Each (λ (y : Node). look' y ≡ g (look y)) (pick p (node x b forest.none) (pick q (subtree key n b) (subtree key n a)))
          → ((r : ℕ) → tally (in_row r) L ≤ tally (in_row r) (flatten d (pick p (node x b forest.none) (pick q (subtree key n b) (subtree key n a)))))
          → (has key n b ≡ true → Each (λ (y : Node). look' y ≡ g (look y)) (subtree key n b) → ((r : ℕ) → tally (in_row r) L ≤ tally (in_row r) (flatten (d + 1) (subtree key n b))) → map_forest look' b ≡ abbreviated (map_forest look b))
          → (has key n a ≡ true → Each (λ (y : Node). look' y ≡ g (look y)) (subtree key n a) → ((r : ℕ) → tally (in_row r) L ≤ tally (in_row r) (flatten d (subtree key n a))) → map_forest look' a ≡ abbreviated (map_forest look a))
          → node (look' x) (map_forest look' b) (map_forest look' a)
          ≡ pick (eqb (number_in (look x)) n) (node (g (look x)) (map_forest g (map_forest look b)) (map_forest look a))
          (pick (has number_in n (map_forest look b)) (node (look x) (abbreviated (map_forest look b)) (map_forest look a)) (node (look x) (map_forest look b) (abbreviated (map_forest look a))))
      go true e q w u i c ib ia =
          ap₂ (λ (y : PlainNode) (k : Forest PlainNode). node y k (map_forest look' a)) i.0 (map_each look' (λ y. g (look y)) b i.1 ∙ sym (map-map look g b))
          ∙ ap (λ (k : Forest PlainNode). node (g (look x)) (map_forest g (map_forest look b)) k) (outside d a (λ r k. alone r (c r) k))
          ∙ ap (λ (p : Bool). pick p (node (g (look x)) (map_forest g (map_forest look b)) (map_forest look a))
          (pick (has number_in n (map_forest look b)) (node (look x) (abbreviated (map_forest look b)) (map_forest look a)) (node (look x) (map_forest look b) (abbreviated (map_forest look a)))))
          (sym (here ∙ e))
      go false e true w u i c ib ia =
          let deep : (r : ℕ) → tally (in_row r) L ≤ tally (in_row r) (flatten (d + 1) (subtree key n b)) = λ r. omega (arith, c r, tally_flat (in_row r) (λ d y. refl) d (d + 1) (subtree key n b)) in
          let small : (r : ℕ) → tally (in_row r) L ≤ tally (in_row r) (flatten (d + 1) b) = λ r. omega (arith, deep r, tally_sub (in_row r) (λ d y. refl) n (d + 1) (d + 1) b) in
          let top : look' x ≡ look x = out x (λ z. zero_taken x.row L (let own : one (in_row x.row (level d x)) ≡ 1 = ap one (ap (λ (v : Bool). pick v false (eqb x.row x.row)) z ∙ eq-eqb x.row x.row refl) in omega (arith, few x.row, small x.row, tally-append (in_row x.row) (flatten (d + 1) b) (flatten d a)))) in
          let side : map_forest look' a ≡ map_forest look a = outside d a (λ r k. omega (arith, few r, small r, tally-append (in_row r) (flatten (d + 1) b) (flatten d a))) in
          ap₂ (λ (y : PlainNode) (k : Forest PlainNode). node y k (map_forest look' a)) top (ib w i deep)
          ∙ ap (λ (k : Forest PlainNode). node (look x) (abbreviated (map_forest look b)) k) side
          ∙ ap₂ (λ (p q : Bool). pick p (node (g (look x)) (map_forest g (map_forest look b)) (map_forest look a))
          (pick q (node (look x) (abbreviated (map_forest look b)) (map_forest look a)) (node (look x) (map_forest look b) (abbreviated (map_forest look a)))))
          (sym (here ∙ e)) (sym (below ∙ w))
      go false e false w u i c ib ia =
          let small : (r : ℕ) → tally (in_row r) L ≤ tally (in_row r) (flatten d a) = λ r. omega (arith, c r, tally_sub (in_row r) (λ d y. refl) n d d a) in
          let top : look' x ≡ look x = out x (λ z. zero_taken x.row L (let own : one (in_row x.row (level d x)) ≡ 1 = ap one (ap (λ (v : Bool). pick v false (eqb x.row x.row)) z ∙ eq-eqb x.row x.row refl) in omega (arith, few x.row, small x.row, tally-append (in_row x.row) (flatten (d + 1) b) (flatten d a)))) in
          let side : map_forest look' b ≡ map_forest look b = outside (d + 1) b (λ r k. omega (arith, few r, small r, tally-append (in_row r) (flatten (d + 1) b) (flatten d a))) in
          ap₂ (λ (y : PlainNode) (k : Forest PlainNode). node y k (map_forest look' a)) top side
          ∙ ap (λ (k : Forest PlainNode). node (look x) (map_forest look b) k) (ia u i c)
          ∙ ap₂ (λ (p q : Bool). pick p (node (g (look x)) (map_forest g (map_forest look b)) (map_forest look a))
          (pick q (node (look x) (abbreviated (map_forest look b)) (map_forest look a)) (node (look x) (map_forest look b) (abbreviated (map_forest look a)))))
          (sym (here ∙ e)) (sym (below ∙ w))

-- a row past the last has no words
past_rows : (k : ℕ) (a b : List ℕ) → length a ≡ controls_words → length b ≡ controls_words → most_rows ≤ k → region (row_words * k) row_words a ≡ region (row_words * k) row_words b
past_rows k a b u v h =
    ap₂ (λ (x y : List ℕ). take row_words x) (drop_of_length-le a {i = row_words * k} (omega arith)) (drop_of_length-le b {i = row_words * k} (omega arith))
    ∙ sym (ap (λ (x : List ℕ). take row_words x) (drop_of_length-le b {i = row_words * k} (omega arith)))

module _ (f : ControlValue → ControlValue) (fits_word : FitsWord f) (name : Key) (bytes : List ℕ) (count n next : ℕ) (e : Engine) (p : Plain) (k : Kept e p)
    (size : length e.controls ≡ controls_words) (there : lives n e.nodes ≡ true) (rows_differ : rows_apart e.nodes ≡ true) (fields : all_formed next e.nodes ≡ true) where
  abbrev run : List Node
  run = run_of n e.nodes

  abbrev part : Forest Node
  part = subtree key n k.forest

  abbrev after : List ℕ
  after = change_all f name bytes count e.slots run e.controls

  run_laid : run ≡ flatten 0 part
  run_laid = ap (λ (l : List Node). run_of n l) k.laid ∙ run_tree n k.forest

  rows_here : Each (λ (y : Node). row_formed y ≡ true) k.forest
  rows_here = all_each (λ (y : Node). row_formed y ≡ true) (λ d x h. h) 0 k.forest (rows_of (flatten 0 k.forest) (formed_rows next (flatten 0 k.forest) (ap (λ (l : List Node). all_formed next l) (sym k.laid) ∙ fields)))

  run_rows : AllRows (flatten 0 part)
  run_rows = each_rows 0 part (each_subtree (λ (y : Node). row_formed y ≡ true) n k.forest rows_here)

  few : (r : ℕ) → tally (in_row r) (flatten 0 k.forest) ≤ 1
  few r = rows_few (flatten 0 k.forest) (ap (λ (l : List Node). rows_apart l) (sym k.laid) ∙ rows_differ) r

  run_differ : rows_apart (flatten 0 part) ≡ true
  run_differ = few_rows (flatten 0 part) (λ r. omega (arith, few r, tally_sub (in_row r) (λ d y. refl) n 0 0 k.forest))

  abbrev changed_run : List ℕ
  changed_run = change_all f name bytes count e.slots (flatten 0 part) e.controls

  pub changed_size : length after ≡ controls_words
  changed_size = ap (λ (l : List Node). length (change_all f name bytes count e.slots l e.controls)) run_laid ∙ all_length f fits_word name bytes count e.slots (flatten 0 part) e.controls size run_rows

  run_size : length changed_run ≡ controls_words
  run_size = all_length f fits_word name bytes count e.slots (flatten 0 part) e.controls size run_rows

  inner : Each (λ (y : Node). view_of e.slots changed_run y ≡ change_node f name bytes count (view_of e.slots e.controls y)) part
  inner =
      each_more (λ y h. ap (λ (kd : Kind). record { number = y.number; run = y.run; kind = kd }) h) part
      (all_each (λ (y : Node). kind_in e.slots changed_run y ≡ change_kind f name bytes count (kind_in e.slots e.controls y)) (λ d x h. h) 0 part
      (all_own f fits_word name bytes count e.slots (flatten 0 part) e.controls size run_rows run_differ))

  outer : (y : Node) → (is_group y ≡ false → row_taken y.row (flatten 0 part) ≡ false) → view_of e.slots changed_run y ≡ view_of e.slots e.controls y
  outer y h =
      ap (λ (kd : Kind). record { number = y.number; run = y.run; kind = kd })
      (kind_same f fits_word name bytes count e.slots y changed_run e.controls (λ g. go (ltb y.row most_rows) refl (h g)))
    where
      go : (b : Bool) → ltb y.row most_rows ≡ b → row_taken y.row (flatten 0 part) ≡ false → region (row_words * y.row) row_words changed_run ≡ region (row_words * y.row) row_words e.controls
      go true w v = all_other f fits_word name bytes count e.slots (flatten 0 part) e.controls size run_rows y.row (ltb-true y.row most_rows w) v
      go false w v = past_rows y.row changed_run e.controls run_size size (ltb-false y.row most_rows w)

  abbrev g : PlainNode → PlainNode
  g = change_node f name bytes count

  pub changed_replayed : Kept (with_controls after e) (change_below g n p)
  changed_replayed = record {
    forest = k.forest;
    laid = k.laid;
    leaves = k.leaves;
    tree = ap (λ (t : Forest PlainNode). edit number_in n (λ x b a. node (g x) (map_forest g b) a) t) k.tree
        ∙ sym (seen_edit (view_of e.slots e.controls) (view_of e.slots changed_run) g n (flatten 0 part) (λ x. refl) outer 0 k.forest
        (sym (lives-has n 0 k.forest) ∙ ap (λ (l : List Node). lives n l) (sym k.laid) ∙ there) inner few (λ r. omega arith))
        ∙ ap (λ (l : List Node). seen_tree e.slots (change_all f name bytes count e.slots l e.controls) k.forest) (sym run_laid);
    names = k.names;
    name_count = k.name_count;
    once = k.once;
    next = k.next;
    latest = k.latest;
    buses = k.buses;
    ordered = k.ordered;
  }
