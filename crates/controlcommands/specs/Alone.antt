-- A synth has no node below it, so that a change of its run is one of its own controls.
use Rattle.std.specs.Prelude.{Option, Ok, ℕ, zero, suc, ◌+◌, ◌-◌, ◌<◌, true, false, ◌≡◌, refl, take, drop, leb, ltb, eqb}
use Rattle.std.proofs.Common.{true≢false, sym, ap, ◌∙◌, arith, leb-true, le-ltb}
use mathlib.Core.List.{List, [], ◌∷◌, nil≢cons, head-eq_of_cons-eq, tail-eq_of_cons-eq}
use Rattle.words.specs.Choice.{both}
use Rattle.words.specs.ChoiceLaws.{both_true}
use Rattle.words.specs.Parts.{region}
use Rattle.nodes.specs.declared.Node.{Node}
use Rattle.nodes.specs.TableLaws.{row-from}
use Rattle.nodes.specs.Place.{is_group, deeper}
use Rattle.nodes.specs.Formed.{reach, steps, rooted}
use Rattle.values.specs.declared.Key.{Key}
use Rattle.model.specs.Answers.{Done, done_or}
use Rattle.model.specs.Layout.{nodes_place, nodes_words, count_in, nodes_in, controls_in, put_controls, record_in}
use Rattle.model.specs.Engine.{decode}
use Rattle.model.specs.Meaning.{cover_of}
use Rattle.model.specs.Effects.{change_covered, change_all}
use Rattle.slots.specs.Slots.{slot_bytes}
use Rattle.state.specs.Known.{Known}
use Rattle.readable.specs.declared.cover.Cover.{Cover}
use Rattle.readable.specs.Lookup.{cover_at}
use Rattle.controls.specs.declared.control.Change.{Change}
use Rattle.controls.specs.Change.{change_of}
use Rattle.controls.specs.Encoded.{front_only}
use Rattle.controls.specs.Cover.{asked_in}
use Rattle.controls.specs.Ready.{ready_known}
use Rattle.controls.specs.Asked.{controls_asked, cover-asked}
use Rattle.controls.specs.All.{cover_alone}
use Rattle.controlcommands.specs.Steps.{run_end, Changed}

-- a record is as deep as it may be at most, and those behind it follow it
step : (most : ℕ) (x : Node) (t : List Node) → steps most (x ∷ t) ≡ true → (leb x.depth most ≡ true) × (steps (reach x) t ≡ true)
unfolding steps
step most x t h = both_true (leb x.depth most) (steps (reach x) t) (both_true (ltb 0 x.depth) (both (leb x.depth most) (steps (reach x) t)) h).1

none_deeper : (d : ℕ) (l : List Node) → steps d l ≡ true → deeper d l ≡ 0
unfolding deeper
none_deeper d [] h = refl
none_deeper d (x ∷ l) h = rw (le-ltb d x.depth (leb-true x.depth d (step d x l h).0))

leaf : (most : ℕ) (t : List Node) (i : ℕ) (r : Node) (rest : List Node) → steps most t ≡ true → drop i t ≡ r ∷ rest → is_group r ≡ false → deeper r.depth rest ≡ 0
leaf most [] zero r rest h e single = absurd (nil≢cons e)
leaf most [] (suc i) r rest h e single = absurd (nil≢cons e)
leaf most (x ∷ t) zero r rest h e single =
    let here : x ≡ r = head-eq_of_cons-eq e in
    none_deeper r.depth rest (rw (here, tail-eq_of_cons-eq e, single) at (step most x t h).1)
leaf most (x ∷ t) (suc i) r rest h e single = leaf (reach x) t i r rest (step most x t h).1 e single

leaf_rooted : (t : List Node) (i : ℕ) (r : Node) (rest : List Node) → rooted t ≡ true → drop i t ≡ r ∷ rest → is_group r ≡ false → deeper r.depth rest ≡ 0
unfolding rooted
leaf_rooted [] i r rest h e single = absurd (true≢false (sym h))
leaf_rooted (x ∷ t) i r rest h e single = go i e
  where
    group : both (is_group x) (steps 1 t) ≡ true
    group = (both_true (eqb x.depth 0) (both (is_group x) (steps 1 t)) (both_true (eqb x.number 0) (both (eqb x.depth 0) (both (is_group x) (steps 1 t))) h).1).1

    go : (i : ℕ) → drop i (x ∷ t) ≡ r ∷ rest → deeper r.depth rest ≡ 0
    go zero g = absurd (true≢false (sym (both_true (is_group x) (steps 1 t) group).0 ∙ ap is_group (head-eq_of_cons-eq g) ∙ single))
    go (suc j) g = leaf 1 t j r rest (both_true (is_group x) (steps 1 t) group).1 g single

-- the synth at a place
module _ (ws bs : List ℕ) (known : Known ws bs) (at : ℕ) (live : at < count_in ws) (single : is_group (record_in ws at) ≡ false) where
  run_alone : run_end ws at ≡ at + 1
  run_alone =
      let none = leaf_rooted (nodes_in ws) at (record_in ws at) (drop (at + 1) (nodes_in ws)) known.tree.root (row-from (count_in ws) (region nodes_place nodes_words ws) at live) single in
      omega arith

  -- what a key covers, as it was looked up in the bytes of its definition
  module _ (key : Key) (bytes : List ℕ) (count : ℕ) (s : List ℕ) (lent : s ≡ slot_bytes ws bs (record_in ws at).slot) (c : Option Cover) (said : cover_at c ≡ cover_of key bytes (front_only s)) where
    covers : cover_at c ≡ cover_of key bytes (front_only (slot_bytes ws bs (record_in ws at).slot))
    covers = said ∙ ap (λ (l : List ℕ). cover_of key bytes (front_only l)) lent

    pub asked_alone : asked_in (cover_at c) count (front_only s) ≡ controls_asked key count bytes (decode ws bs).slots (record_in ws at)
    asked_alone =
        ap (λ (l : List ℕ). asked_in (cover_at c) count (front_only l)) lent
        ∙ cover-asked ws bs (ready_known ws bs known) at live single key bytes c covers count

    pub changed_alone : (h : Change) (ws' : List ℕ) {u : Unit {0}} → Ok u ≡ asked_in (cover_at c) count (front_only s)
        → ws' ≡ put_controls (change_covered (change_of h) (cover_at c) (record_in ws at).row count (controls_in ws)) ws → Changed h key count bytes at ws bs Done ws'
    changed_alone h ws' {u} there o =
        record {
          answers = ap (done_or {A = Unit {0}}) (there ∙ asked_alone);
          words =
              o
              ∙ ap (λ (l : List ℕ). put_controls l ws)
              (cover_alone (change_of h) key bytes count ws bs at (ready_known ws bs known) live single c covers
              ∙ ap (λ (k : ℕ). change_all (change_of h) key bytes count (decode ws bs).slots (take (k - at) (drop at (nodes_in ws))) (controls_in ws)) (sym run_alone));
        }
