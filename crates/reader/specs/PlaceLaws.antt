-- What is answered of a reading that only says where it ends, and the turns of a skip of so many definitions.
use Prim.{Unit}
use Rattle.std.specs.Prelude.{ℕ, zero, suc, ◌+◌, ◌-◌, ◌≤◌, ◌<◌, ◌≡◌, refl, List, [], length}
use Rattle.std.proofs.Math.Path.{ap}
use Rattle.std.proofs.Common.{◌∙◌}
use native.Mathlib.Omega.{arith}
use Rattle.words.specs.Parts.{region}
use Rattle.faults.specs.declared.Fault.{Fault}
use Rattle.format.specs.Read.{Read, got, bad, ending, on_read}
use Rattle.format.specs.Definition.{Definition}
use Rattle.format.specs.Reader.{file_width}
use Rattle.files.specs.Forward.{definition_whole}
use Rattle.std.specs.Prelude.{Some, None}
use Rattle.reader.specs.Places.{definition_here, place_after, place_past, span_at, bytes_at}

module _ {A B : Type 0} (none : B) (ask : ℕ → B) where
  on_got : (r : Read A) {u : Unit {0}} {next : ℕ} → ending r ≡ got u next → on_read r none (λ x n. ask n) ≡ ask next
  on_got (got x n) {u} {next} h =
      let same : n ≡ next = cc in
      ap ask same
  on_got (bad q at) h = absurd (let z : ◌≡◌ {A = ℕ} 0 1 = cc in omega arith)

  on_bad : (r : Read A) {q : Fault} {place : ℕ} → ending r ≡ bad q place → on_read r none (λ x n. ask n) ≡ none
  on_bad (got x n) h = absurd (let z : ◌≡◌ {A = ℕ} 0 1 = cc in omega arith)
  on_bad (bad q at) h = refl

module _ (s : List ℕ) (at : ℕ) where
  pub after_got : {u : Unit {0}} {next : ℕ} → ending (definition_here s at) ≡ got u next → place_after s at ≡ next
  after_got e = on_got (length s) (λ n. n) (definition_here s at) e

  pub after_bad : {q : Fault} {place : ℕ} → ending (definition_here s at) ≡ bad q place → place_after s at ≡ length s
  after_bad e = on_bad (length s) (λ n. n) (definition_here s at) e

  pub bytes_got : {u : Unit {0}} {next : ℕ} → ending (definition_here s at) ≡ got u next → bytes_at s at ≡ region at (next - at) s
  bytes_got e = on_got [] (λ n. region at (n - at) s) (definition_here s at) e

  pub bytes_bad : {q : Fault} {place : ℕ} → ending (definition_here s at) ≡ bad q place → bytes_at s at ≡ []
  bytes_bad e = on_bad [] (λ n. region at (n - at) s) (definition_here s at) e

  pub span_got : {u : Unit {0}} {next : ℕ} → ending (definition_here s at) ≡ got u next → span_at s at ≡ Some (at, next)
  span_got e = on_got None (λ n. Some (at, n)) (definition_here s at) e

  pub span_bad : {q : Fault} {place : ℕ} → ending (definition_here s at) ≡ bad q place → span_at s at ≡ None
  span_bad e = on_bad None (λ n. Some (at, n)) (definition_here s at) e

  -- from the file's end on no definition can be read
  module _ {B : Type 0} (none : B) (ask : ℕ → B) (h : length s ≤ at) where
    on_end : on_read (definition_here s at) none (λ d n. ask n) ≡ none
    on_end = cases (definition_here s at) refl where
      cases : (r : Read Definition) → definition_here s at ≡ r → on_read r none (λ d n. ask n) ≡ none
      cases (got d next) e = absurd (omega (arith, (definition_whole (file_width s) s at e).inside))
      cases (bad q place) e = refl

  after_end : length s ≤ at → place_after s at ≡ length s
  after_end h = on_end (length s) (λ n. n) h

  pub span_end : length s ≤ at → span_at s at ≡ None
  span_end h = on_end None (λ n. Some (at, n)) h

-- from the file's end on the place past so many is the end
pub past_length : (s : List ℕ) (n : ℕ) → place_past s n (length s) ≡ length s
unfolding place_past
past_length s zero = refl
past_length s (suc n) = ap (place_past s n) (after_end s (length s) (omega arith)) ∙ past_length s n

pub past_beyond : (s : List ℕ) (n at : ℕ) → length s ≤ at → place_past s (suc n) at ≡ length s
unfolding place_past
past_beyond s n at h = ap (place_past s n) (after_end s at h) ∙ past_length s n

-- the turns of a loop that skips n definitions one by one: the one that skips number i, one at the file's end, and the last
module _ (s : List ℕ) (n i at : ℕ) where
  ahead : i < n → n - i ≡ suc (n - (i + 1))
  ahead h = omega arith

  pub past_turn : i < n → place_past s (n - i) at ≡ place_past s (n - (i + 1)) (place_after s at)
  unfolding place_past
  past_turn h = ap (λ (k : ℕ). place_past s k at) (ahead h)

  pub past_end : i < n → length s ≤ at → place_past s (n - i) at ≡ length s
  past_end h l = ap (λ (k : ℕ). place_past s k at) (ahead h) ∙ past_beyond s (n - (i + 1)) at l

  pub past_last : n ≤ i → place_past s (n - i) at ≡ at
  unfolding place_past
  past_last h = let e : n - i ≡ 0 = omega arith in rw e
