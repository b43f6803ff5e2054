-- What is noted of each slot that was looked up, in a table that starts with no note of any slot.
use Rattle.std.specs.Prelude.{ℕ, ◌<◌, Bool, true, false, ◌≡◌, refl, List, length, get_or, set, replicate, eqb, Option, Some, None, IfSome}
use Prim.{tt}
use Rattle.std.proofs.Common.{◌∙◌, length-set, get_or-set_same, get_or-set_other, eqb-true}
use Rattle.std.proofs.lemmas.List.{length-replicate, get_or-replicate}
use Rattle.std.proofs.lemmas.Bool.{eqb-false}
use Rattle.model.specs.Layout.{slot_count}

-- what is noted of a slot holds of it
pub record Noted {A : Type 0} (holds : ℕ → A → Type 0) (notes : List (Option A)) : Type 0 where
  pub size : length notes ≡ slot_count
  pub same : (d : Option A) (k : ℕ) → k < slot_count → IfSome (get_or notes k d) (holds k)

module _ {A : Type 0} (holds : ℕ → A → Type 0) where
  pub noted_none : Noted holds (replicate slot_count None)
  noted_none = record {
    size = length-replicate {A = Option A} slot_count None;
    same = λ d k h. rw (get_or-replicate {A = Option A} slot_count k None d h) tt;
  }

  -- one slot more
  pub noted_more : (notes : List (Option A)) → Noted holds notes → (slot : ℕ) (x : A) → slot < slot_count → holds slot x → Noted holds (set notes slot (Some x))
  noted_more notes t slot x low here = record { size = length-set notes slot (Some x) ∙ t.size; same = λ d k h. by d k h (eqb k slot) refl }
    where
      by : (d : Option A) (k : ℕ) → k < slot_count → (b : Bool) → eqb k slot ≡ b → IfSome (get_or (set notes slot (Some x)) k d) (holds k)
      by d k h true e =
          let same : k ≡ slot = eqb-true k slot e in
          rw (same, get_or-set_same notes slot (Some x) d (rw t.size low)) here
      by d k h false e = rw (get_or-set_other notes slot k (Some x) d (eqb-false k slot e)) (t.same d k h)
