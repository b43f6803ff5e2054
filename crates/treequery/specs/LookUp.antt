-- The slots of a run of synths, looked up one row after the other.
use Rattle.std.specs.Prelude.{ℕ, ◌+◌, ◌*◌, ◌≤◌, ◌<◌, Bool, true, false, ◌≡◌, refl, List, ltb, get_or, replicate}
use Rattle.std.proofs.Common.{true≢false, sym, ◌∙◌, arith, below_more, ltb-true, ltb-false}
use Rattle.std.proofs.lemmas.List.{length-replicate, get_or-replicate}
use Rattle.nodes.specs.Place.{is_group}
use Rattle.slots.specs.Slots.{slot_bytes}
use Rattle.model.specs.Layout.{record_in}
use Rattle.treequery.specs.Shapes.{shape_words, shapes_length, label_in, Shape, Shapes, Filled, ShapesKnown, LookedUp}

-- three ways for two numbers to lie
three : {E : Type 0} (k n : ℕ) → (k < n → E) → (k ≡ n → E) → (n < k → E) → E
three {E} k n less same more = go (ltb k n) refl (ltb n k) refl
  where
    go : (p : Bool) → ltb k n ≡ p → (q : Bool) → ltb n k ≡ q → E
    go true e q f = less (ltb-true k n e)
    go false e true f = more (ltb-true n k f)
    go false e false f = same (omega (arith, ltb-false k n e, ltb-false n k f))

-- a part that stays as it was
shape_kept : (s : List ℕ) (k : ℕ) (table table' : List ℕ) → ((j : ℕ) → j < shape_words → get_or table' (shape_words * k + j) 0 ≡ get_or table (shape_words * k + j) 0) → Shape s k table → Shape s k table'
shape_kept s k table table' same h =
    let first : shape_words * k + 0 ≡ shape_words * k = omega arith in
    let on : (j : ℕ) → j < 32 → label_in table' k j ≡ label_in table k j =
    λ j l. let e : shape_words * k + (1 + j) ≡ shape_words * k + 1 + j = omega arith in rw e at (same (1 + j) (omega arith)) in
    record {
      many = rw first at (same 0 (omega arith)) ∙ h.many;
      named = λ j l. rw (on j l) (h.named j l);
      within = λ j l. rw (on j l) (h.within j l);
    }

module _ (ws bs : List ℕ) (i : ℕ) (table : List ℕ) (t : ShapesKnown ws bs table) where
  pub looked_group : is_group (record_in ws i) ≡ true → LookedUp ws bs i table table
  looked_group e = record { fact = t; kept = λ k l h. h; there = λ f. absurd (true≢false (sym e ∙ f)) }

  pub looked_before : 0 < get_or table (shape_words * (record_in ws i).slot) 0 → LookedUp ws bs i table table
  looked_before h = record { fact = t; kept = λ k l p. p; there = λ f. h }

  pub looked_now : (table' : List ℕ) → (record_in ws i).slot < 32 → Filled (slot_bytes ws bs (record_in ws i).slot) (record_in ws i).slot table table' → LookedUp ws bs i table table'
  looked_now table' low f =
      let slot = (record_in ws i).slot in
      let many = f.shape.many in
      let before : (k m : ℕ) → k < slot → m < shape_words → get_or table' (shape_words * k + m) 0 ≡ get_or table (shape_words * k + m) 0 = λ k m less h. f.below (shape_words * k + m) (omega arith) in
      let behind : (k m : ℕ) → slot < k → get_or table' (shape_words * k + m) 0 ≡ get_or table (shape_words * k + m) 0 = λ k m more. f.above (shape_words * k + m) (omega arith) in
      record {
        fact = record {
          size = f.size;
          right = λ k l h.
              three k slot
              (λ less. shape_kept (slot_bytes ws bs k) k table table' (λ m x. before k m less x) (t.right k l (rw (f.below (shape_words * k) (omega arith)) at h)))
              (λ e. rw e f.shape)
              (λ more. shape_kept (slot_bytes ws bs k) k table table' (λ m x. behind k m more) (t.right k l (rw (f.above (shape_words * k) (omega arith)) at h)));
        };
        kept = λ k l h.
            three k slot
            (λ less. rw (f.below (shape_words * k) (omega arith)) h)
            (λ e. rw e (omega arith))
            (λ more. rw (f.above (shape_words * k) (omega arith)) h);
        there = λ e. omega arith;
      }

-- one row more
pub looked_more : (ws bs : List ℕ) (from i : ℕ) (table table' : List ℕ) → ((j : ℕ) → j < i → is_group (record_in ws j) ≡ false → (record_in ws j).slot < 32) → LookedUp ws bs i table table'
    → ((j : ℕ) → from ≤ j → j < i → is_group (record_in ws j) ≡ false → 0 < get_or table (shape_words * (record_in ws j).slot) 0)
    → (j : ℕ) → from ≤ j → j < i + 1 → is_group (record_in ws j) ≡ false → 0 < get_or table' (shape_words * (record_in ws j).slot) 0
looked_more ws bs from i table table' low h there = λ j l k single.
    below_more (λ (m : ℕ). from ≤ m → is_group (record_in ws m) ≡ false → 0 < get_or table' (shape_words * (record_in ws m).slot) 0) i
    (λ m x y z. h.kept (record_in ws m).slot (low m x z) (there m y x z))
    (λ y z. h.there z)
    j k l single

-- all rows looked up
pub looked_all : (ws bs : List ℕ) (from end : ℕ) (table : List ℕ) → ShapesKnown ws bs table → ((i : ℕ) → i < end → is_group (record_in ws i) ≡ false → (record_in ws i).slot < 32)
    → ((i : ℕ) → from ≤ i → i < end → is_group (record_in ws i) ≡ false → 0 < get_or table (shape_words * (record_in ws i).slot) 0) → Shapes ws bs from end table
looked_all ws bs from end table t low there = λ i l h single. t.right (record_in ws i).slot (low i h single) (there i l h single)

-- none so far
pub fact_none : (ws bs : List ℕ) → ShapesKnown ws bs (replicate shapes_length 0)
fact_none ws bs = record {
  size = length-replicate {A = ℕ} shapes_length 0;
  right = λ k l h. absurd (let none : get_or (replicate shapes_length 0) (shape_words * k) 0 ≡ 0 = get_or-replicate {A = ℕ} shapes_length (shape_words * k) 0 0 (omega arith) in omega arith);
}
