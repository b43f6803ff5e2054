-- A new synth: the engine and the plain tree after it are the same again.
use Prim.{tt}
use Rattle.std.specs.Prelude.{ℕ, zero, suc, ◌+◌, ◌-◌, ◌*◌, ◌≤◌, ◌<◌, Bool, true, false, not, ◌≡◌, refl, List, [], ◌∷◌, ◌++◌, length, take, drop, ltb, leb, eqb}
use Rattle.std.proofs.Common.{sym, ap₂, ◌∙◌, subst, ltb-true, eqb-true, eq-eqb, drop_at, length-take-le}
use Rattle.std.proofs.Math.Path.{ap}
use Rattle.std.proofs.Math.Option.{Option, none, some}
use native.Mathlib.Omega.{arith}
use Rattle.std.proofs.lemmas.Bool.{not-false, eqb-false}
use Rattle.words.specs.Choice.{pick, both, either}
use Rattle.words.specs.ChoiceLaws.{both_true, either_false}
use Rattle.format.specs.Definition.{Definition}
use Rattle.nodes.specs.declared.Node.{Node}
use Rattle.nodes.specs.Place.{group_slot, is_group, lives}
use Rattle.nodes.specs.Forest.{Forest, node, flatten, map_forest, has}
use Rattle.nodes.specs.Forest as forest
use Rattle.nodes.specs.Formed.{most_rows, number_formed, row_formed, fields_formed, all_formed, row_taken, free_row}
use Rattle.treerefinement.specs.Flatten.{key, lives-has}
use Rattle.treerefinement.specs.MapForest.{Each, map_each}
use Rattle.words.specs.Parts.{over}
use Rattle.nodes.specs.Edit.{level, add_by}
use Rattle.treerefinement.specs.Tally.{one, tally, IgnoresDepth, tally-append, Grown}
use Rattle.preservation.specs.Parameters.{few_parameters}
use Rattle.words.specs.PartsLaws.{over_put}
use Rattle.preservation.specs.ControlRows.{other_row}
use Rattle.values.specs.Controls.{ControlValue, control_at}
use Rattle.model.specs.Layout.{row_words, controls_words}
use Rattle.model.specs.Engine.{Engine, definition_in, slot_at, definition_of, controls_from, controls_of}
use Rattle.model.specs.View.{Kind, group, synth, PlainNode, view_of}
use Rattle.model.specs.Effects.{staying_nodes, new_synth, number_for, next_after, initial_words, synth_made}
use Rattle.model.specs.Checks.{bad_action}
use Rattle.words.specs.Patterns.{minus_one}
use Rattle.model.specs.Plain.{Plain, lowest, and_then, number_in, initial_controls, synth_of, put_by, put_new, put_synth, step_synth}
use Rattle.refinement.specs.Kept.{Kept, Replayed}
use Rattle.refinement.specs.Places.{seen_has}
use Rattle.refinement.specs.TreeReplay.{Place, Added, added}
use Rattle.refinement.specs.DefinitionsReplay.{each_more}

-- a test that no record of a table passes, passes no item of its tree
pub each_tally : (q : Node → Bool) → IgnoresDepth q → (d : ℕ) (f : Forest Node) → tally q (flatten d f) ≡ 0 → Each (λ (y : Node). q y ≡ false) f
unfolding Each flatten tally
each_tally q ignores-depth d forest.none h = tt
each_tally q ignores-depth d (node x b a) h =
    let s = tally-append q (flatten (d + 1) b) (flatten d a) in
    (go (q x) refl, each_tally q ignores-depth (d + 1) b (omega arith), each_tally q ignores-depth d a (omega arith))
  where
    go : (p : Bool) → q x ≡ p → p ≡ false
    go true e = let z : one (q (level d x)) ≡ 1 = ap one (ignores-depth d x ∙ e) in absurd (omega arith)
    go false e = refl

-- the controls of a row are fact by its words
pub controls_front : (n m : ℕ) (us : List ℕ) → n + n ≤ m → controls_from n (take m us) ≡ controls_from n us
unfolding controls_from
controls_front zero m us h = refl
controls_front (suc n) zero us h = absurd (omega arith)
controls_front (suc n) (suc zero) us h = absurd (omega arith)
controls_front (suc n) (suc (suc m)) [] h = refl
controls_front (suc n) (suc (suc m)) (u ∷ []) h = refl
controls_front (suc n) (suc (suc m)) (u ∷ (v ∷ us)) h = ap (λ (l : List ControlValue). control_at u v ∷ l) (controls_front n m us (omega arith))

-- initial values as they lie in a row are read as initial controls
controls_initial : (vs rest : List ℕ) → controls_from (length vs) (initial_words vs ++ rest) ≡ initial_controls vs
unfolding controls_from initial_words initial_controls
controls_initial [] rest = refl
controls_initial (v ∷ vs) rest = ap (λ (l : List ControlValue). control_at v 0 ∷ l) (controls_initial vs rest)

-- a record that has the new number but not the new synth's fields, or that is another synth in the new synth's row or in no row
abbrev strange : ℕ → ℕ → ℕ → Node → Bool
strange number slot row y =
    pick (eqb y.number number) (not (both (eqb y.slot slot) (both (eqb y.row row) (eqb y.run 1))))
    (pick (is_group y) false (either (eqb y.row row) (not (ltb y.row most_rows))))

none_strange : (number slot row next : ℕ) (t : List Node) → lives number t ≡ false → row_taken row t ≡ false → all_formed next t ≡ true → tally (strange number slot row) t ≡ 0
unfolding tally lives row_taken all_formed
none_strange number slot row next [] h g f = refl
none_strange number slot row next (r ∷ l) h g f =
    let a = either_false (eqb r.number number) (lives number l) h in
    let b = either_false (pick (is_group r) false (eqb r.row row)) (row_taken row l) g in
    let c = both_true (fields_formed next r) (all_formed next l) f in
    let c1 = both_true (number_formed next r) _ c.0 in
    let c2 = both_true (leb r.run 1) _ c1.1 in
    let c3 = both_true (leb r.slot group_slot) (row_formed r) c2.1 in
    let here : strange number slot row r ≡ false = ap (λ (p : Bool). pick p (not (both (eqb r.slot slot) (both (eqb r.row row) (eqb r.run 1)))) (pick (is_group r) false (either (eqb r.row row) (not (ltb r.row most_rows))))) a.0 ∙ go (is_group r) b.0 c3.1 in
    let one-here : one (strange number slot row r) ≡ 0 = ap one here in
    let ih = none_strange number slot row next l a.1 b.1 c.1 in
    omega arith
  where
    go : (p : Bool) → pick p false (eqb r.row row) ≡ false → pick p true (ltb r.row most_rows) ≡ true → pick p false (either (eqb r.row row) (not (ltb r.row most_rows))) ≡ false
    go true u v = refl
    go false u v = ap₂ (λ (x y : Bool). either x (not y)) u v

pub absent_tally : (number : ℕ) (t : List Node) → lives number t ≡ false → tally (λ (y : Node). eqb y.number number) t ≡ 0
unfolding tally lives
absent_tally number [] h = refl
absent_tally number (r ∷ l) h =
    let a = either_false (eqb r.number number) (lives number l) h in
    let z : one (eqb r.number number) ≡ 0 = ap one a.0 in
    let ih = absent_tally number l a.1 in
    omega arith

-- a number that no record has is no item's
no_number : (number d : ℕ) (f : Forest Node) → lives number (flatten d f) ≡ false → Each (λ (y : Node). eqb y.number number ≡ false) f
no_number number d f h = each_tally (λ y. eqb y.number number) (λ d r. refl) d f (absent_tally number (flatten d f) h)

module _ (e : Engine) (p : Plain) (k : Kept e p) (number action n slot next : ℕ) where
  abbrev fresh : ℕ
  fresh = number_for number e.next

  abbrev staying : List Node
  staying = staying_nodes action n e.nodes

  abbrev row : ℕ
  row = free_row staying

  abbrev made : Node
  made = new_synth fresh slot row

  abbrev d : Definition
  d = definition_in (slot_at e.slots slot)

  abbrev controls' : List ℕ
  controls' = over (row_words * row) (initial_words d.front.values) e.controls

  abbrev new_node : PlainNode
  new_node = record { number = fresh; run = 1; kind = synth_of d }

  -- the view in between: the new node as it will be, the others as they were
  abbrev between : Node → PlainNode
  between y = pick (eqb y.number fresh) new_node (view_of e.slots e.controls y)

  between_number : (y : Node) → number_in (between y) ≡ key y
  between_number y = go (eqb y.number fresh) refl
    where
      go : (b : Bool) → eqb y.number fresh ≡ b → number_in (pick b new_node (view_of e.slots e.controls y)) ≡ key y
      go true h = sym (eqb-true y.number fresh h)
      go false h = refl

  -- what is known where the command is accepted
  module _ (five : bad_action action ≡ false) (place : Place action n k.forest p.tree) (given : eqb number minus_one ≡ false → ltb number lowest ≡ true) (left : eqb number minus_one ≡ true → ltb p.next lowest ≡ false) (nonzero : eqb fresh 0 ≡ false) (size : length e.controls ≡ controls_words) (low : row < most_rows) (free : row_taken row staying ≡ false) (new : lives fresh e.nodes ≡ false) (new_here : lives fresh staying ≡ false)
      (fields : all_formed next staying ≡ true) (single : eqb slot group_slot ≡ false) (grown : Grown (made ∷ []) (add_by action made n e.nodes) staying) where
    abbrev f : Forest Node
    f = k.forest

    -- before: the plain tree is the tree of records in the view in between
    tree_between : p.tree ≡ map_forest between f
    tree_between =
        k.tree
        ∙ map_each (view_of e.slots e.controls) between f
        (each_more (λ y h. sym (ap (λ (b : Bool). pick b new_node (view_of e.slots e.controls y)) h)) f (no_number fresh 0 f (ap (λ (l : List Node). lives fresh l) (sym k.laid) ∙ new)))

    put_in : Added between (add_by action made n (flatten 0 f)) (put_by action (between made) n (map_forest between f))
    put_in = added between between_number f k.leaves made refl n action five (subst (λ (g : Forest PlainNode). Place action n f g) tree_between place)

    made-between : between made ≡ new_node
    made-between = ap (λ (b : Bool). pick b new_node (view_of e.slots e.controls made)) (eq-eqb fresh fresh refl)

    -- the new synth's controls as they lie in its row
    own_row : controls_from (length d.front.values) (drop (row_words * row) controls') ≡ initial_controls d.front.values
    own_row =
        ap (λ (l : List ℕ). controls_from (length d.front.values) (drop (row_words * row) l)) (over_put (row_words * row) (initial_words d.front.values) e.controls)
        ∙ ap (λ (l : List ℕ). controls_from (length d.front.values) l)
        (drop_at (take (row_words * row) e.controls) (initial_words d.front.values ++ drop (length (initial_words d.front.values)) (drop (row_words * row) e.controls)) (row_words * row)
        (length-take-le (row_words * row) e.controls (omega arith)))
        ∙ controls_initial d.front.values (drop (length (initial_words d.front.values)) (drop (row_words * row) e.controls))

    -- another synth's controls
    other_controls : (y : Node) → y.row < most_rows → (y.row ≡ row → ⊥) → controls_of e.slots e.controls y ≡ controls_of e.slots controls' y
    other_controls y h ne =
        let many : length (definition_of e.slots y).front.values + length (definition_of e.slots y).front.values ≤ row_words = omega (arith, few_parameters (slot_at e.slots y.slot)) in
        sym (controls_front (length (definition_of e.slots y).front.values) row_words (drop (row_words * y.row) e.controls) many)
        ∙ ap (λ (l : List ℕ). controls_from (length (definition_of e.slots y).front.values) l) (sym (other_row e.slots e.controls size slot row low y.row h ne))
        ∙ controls_front (length (definition_of e.slots y).front.values) row_words (drop (row_words * y.row) controls') many

    -- a record that is not strange is seen alike
    alike : (y : Node) → strange fresh slot row y ≡ false → between y ≡ view_of e.slots controls' y
    alike y h = go (eqb y.number fresh) refl h
      where
        other : (g : Bool) → is_group y ≡ g → pick g false (either (eqb y.row row) (not (ltb y.row most_rows))) ≡ false
            → pick g group (synth (definition_of e.slots y) (controls_of e.slots e.controls y)) ≡ pick g group (synth (definition_of e.slots y) (controls_of e.slots controls' y))
        other true a b = refl
        other false a b =
            let w = either_false (eqb y.row row) (not (ltb y.row most_rows)) b in
            ap (λ (cs : List ControlValue). synth (definition_of e.slots y) cs) (other_controls y (ltb-true y.row most_rows (not-false (ltb y.row most_rows) w.1)) (eqb-false y.row row w.0))

        go : (b : Bool) → eqb y.number fresh ≡ b
            → pick b (not (both (eqb y.slot slot) (both (eqb y.row row) (eqb y.run 1)))) (pick (is_group y) false (either (eqb y.row row) (not (ltb y.row most_rows)))) ≡ false
            → pick b new_node (view_of e.slots e.controls y) ≡ view_of e.slots controls' y
        go true a b =
            let w = both_true (eqb y.slot slot) _ (not-false _ b) in
            let v = both_true (eqb y.row row) (eqb y.run 1) w.1 in
            let own : PlainNode = record { number = fresh; run = 1; kind = pick (eqb slot group_slot) group (synth d (controls_from (length d.front.values) (drop (row_words * row) controls'))) } in
            let mine : new_node ≡ own = ap₂ (λ (g : Bool) (cs : List ControlValue). record { number = fresh; run = 1; kind = pick g group (synth d cs) }) (sym single) (sym own_row) in
            mine ∙ sym (same_fields y (eqb-true y.number fresh a) (eqb-true y.slot slot w.0) (eqb-true y.row row v.0) (eqb-true y.run 1 v.1))
          where
            same_fields : (y : Node) → y.number ≡ fresh → y.slot ≡ slot → y.row ≡ row → y.run ≡ 1
                → view_of e.slots controls' y ≡ record { number = fresh; run = 1; kind = pick (eqb slot group_slot) group (synth d (controls_from (length d.front.values) (drop (row_words * row) controls'))) }
            same_fields y a b c r =
                ap₂ (λ (m q : ℕ). record { number = m; run = q; kind = pick (eqb y.slot group_slot) group (synth (definition_in (slot_at e.slots y.slot)) (controls_from (length (definition_in (slot_at e.slots y.slot)).front.values) (drop (row_words * y.row) controls'))) }) a r
                ∙ ap₂ (λ (m q : ℕ). record { number = fresh; run = 1; kind = pick (eqb m group_slot) group (synth (definition_in (slot_at e.slots m)) (controls_from (length (definition_in (slot_at e.slots m)).front.values) (drop (row_words * q) controls'))) }) b c
        go false a b = ap (λ (kd : Kind). record { number = y.number; run = y.run; kind = kd }) (other (is_group y) refl b)

    made_normal : strange fresh slot row made ≡ false
    made_normal =
        ap₂ (λ (p q : Bool). pick p (not (both q (both (eqb row row) (eqb 1 1)))) (pick (is_group made) false (either (eqb row row) (not (ltb row most_rows))))) (eq-eqb fresh fresh refl) (eq-eqb slot slot refl)
        ∙ ap (λ (q : Bool). not (both true (both q (eqb 1 1)))) (eq-eqb row row refl)

    none_odd : tally (strange fresh slot row) (add_by action made n e.nodes) ≡ 0
    unfolding tally
    none_odd =
        let g = grown.sum (strange fresh slot row) (λ d r. refl) in
        let b = none_strange fresh slot row next staying new_here free fields in
        let o : one (strange fresh slot row made) ≡ 0 = ap one made_normal in
        omega arith

    laid_out : add_by action made n e.nodes ≡ flatten 0 put_in.forest
    laid_out = ap (λ (l : List Node). add_by action made n l) k.laid ∙ put_in.laid

    -- the plain tree gives the same number
    same_number : step_synth number action n d p ≡ put_synth fresh (next_after number e.next) action n d p
    same_number = go (eqb number minus_one) refl ∙ ap (λ (m : ℕ). put_synth (number_for number m) (next_after number m) action n d p) (sym k.next)
      where
        go : (b : Bool) → eqb number minus_one ≡ b
            → pick b (pick (ltb p.next lowest) none (put_synth p.next (p.next - 1) action n d p)) (pick (ltb number lowest) (put_synth number p.next action n d p) none)
            ≡ put_synth (pick b p.next number) (pick b (p.next - 1) p.next) action n d p
        go true q = ap (λ (c : Bool). pick c none (put_synth p.next (p.next - 1) action n d p)) (left q)
        go false q = ap (λ (c : Bool). pick c (put_synth number p.next action n d p) none) (given q)

    -- which no node has
    absent : has number_in fresh p.tree ≡ false
    absent =
        ap (λ (g : Forest PlainNode). has number_in fresh g) k.tree
        ∙ seen_has (view_of e.slots e.controls) (λ x. refl) fresh f
        ∙ sym (lives-has fresh 0 f)
        ∙ ap (λ (l : List Node). lives fresh l) (sym k.laid)
        ∙ new

    put-tree : put_new action new_node n p.tree ≡ some (map_forest (view_of e.slots controls') put_in.forest)
    put-tree =
        ap (λ (b : Bool). pick b none (put_by action new_node n p.tree)) absent
        ∙ ap₂ (λ (x : PlainNode) (g : Forest PlainNode). put_by action x n g) (sym made-between) tree_between
        ∙ put_in.seen
        ∙ ap (λ (g : Forest PlainNode). some g)
        (map_each between (view_of e.slots controls') put_in.forest
        (each_more (λ y h. alike y h) put_in.forest (each_tally (strange fresh slot row) (λ d r. refl) 0 put_in.forest (ap (λ (l : List Node). tally (strange fresh slot row) l) (sym laid_out) ∙ none_odd))))

    pub synth_replayed : Replayed (synth_made number action n slot e) (step_synth number action n d p)
    synth_replayed = record {
      plain = record { tree = map_forest (view_of e.slots controls') put_in.forest; names = p.names; next = next_after number e.next; latest = some fresh; buses = p.buses };
      stepped = same_number
          ∙ ap (λ (o : Option (Forest PlainNode)). and_then o (λ g. some (record { tree = g; names = p.names; next = next_after number e.next; latest = some fresh; buses = p.buses }))) put-tree;
      kept = record {
        forest = put_in.forest;
        laid = laid_out;
        leaves = put_in.leaves;
        tree = refl;
        names = k.names;
        name_count = k.name_count;
        once = k.once;
        next = refl;
        latest = ap (λ (b : Bool). pick b none (some fresh)) nonzero;
        buses = k.buses;
        ordered = refl;
      };
    }
