-- Readings of a message: what is written is read back. The laws of their combinations.
use Rattle.std.specs.Prelude.{ℕ, ◌+◌, ◌≡◌, List, [], ◌++◌, length}
use Rattle.std.proofs.Common.{ap, ◌∙◌, add-zero, arith, length-append}
use Rattle.roundtrip.specs.Stands.{Stands, stands_left, stands_right}
use Rattle.messages.specs.Form.{Parse, parsed, and_then, map_parse}

-- wherever w stands, it is read as x
pub record Reads {A : Type 0} (read : List ℕ → ℕ → Parse A) (x : A) (w : List ℕ) : Type 0 where
  pub found : (s : List ℕ) (at : ℕ) → Stands s at w → read s at ≡ parsed x (at + length w)

module _ {A B : Type 0} where
  -- one reading after another, which may depend on the first one's value
  pub then_reads : {r : List ℕ → ℕ → Parse A} (more : A → List ℕ → ℕ → Parse B) {x : A} {y : B} {w v : List ℕ} → Reads r x w → Reads (more x) y v
      → Reads (λ s at. and_then (r s at) (λ z next. more z s next)) y (w ++ v)
  then_reads {r} more {x} {y} {w} {v} f g = record {
    found = λ s at h.
        rw (f.found s at (stands_left s at w v h))
        (g.found s (at + length w) (stands_right s at w v h) ∙ ap (λ (n : ℕ). parsed y n) (omega (arith, length-append w v)));
  }

  -- the last reading, and one that is kept in another form
  pub last_reads : {r : List ℕ → ℕ → Parse A} (f : A → B) {x : A} {w : List ℕ} → Reads r x w → Reads (λ s at. and_then (r s at) (λ z end. parsed (f z) end)) (f x) w
  last_reads f g = record { found = λ s at h. rw (g.found s at h) }

  pub map_reads : {r : List ℕ → ℕ → Parse A} (f : A → B) {x : A} {w : List ℕ} → Reads r x w → Reads (λ s at. map_parse f (r s at)) (f x) w
  map_reads f g = record { found = λ s at h. rw (g.found s at h) }

-- nothing to read
pub none_reads : {A : Type 0} (x : A) → Reads (λ s at. parsed x at) x []
none_reads x = record { found = λ s at h. rw add-zero }
