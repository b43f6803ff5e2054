-- A reader, a writer and a test that belong together: what is written is read back. The laws of their combinations.
use Rattle.std.specs.Prelude.{ℕ, ◌+◌, ◌≡◌, Bool, true, length}
use Rattle.std.proofs.Common.{ap, ◌∙◌, add-zero, arith, length-append}
use mathlib.Core.List.{List, [], ◌∷◌, ◌++◌}
use Rattle.words.specs.ChoiceLaws.{both_true}
use Rattle.faults.specs.declared.Fault.{Fault}
use Rattle.format.specs.Read.{Read, got, and_then, checked, repeat}
use Rattle.format.specs.Writer.{write_all}
use Rattle.format.specs.Bounds.{every}
use Rattle.roundtrip.specs.Stands.{Stands, stands_left, stands_right}

-- wherever w stands, it is read as x
pub record Reads {A : Type 0} (read : List ℕ → ℕ → Read A) (x : A) (w : List ℕ) : Type 0 where
  pub found : (s : List ℕ) (at : ℕ) → Stands s at w → read s at ≡ got x (at + length w)

-- what passes the test is read back from its writing
abbrev pub Back : {A : Type 0} → (List ℕ → ℕ → Read A) → (A → List ℕ) → (A → Bool) → Type 0
Back {A} read write test = (x : A) → test x ≡ true → Reads read x (write x)

module _ {A B : Type 0} where
  -- one reading after another, which may depend on the first one's place and value
  pub onward_reads : {r : List ℕ → ℕ → Read A} (more : ℕ → A → List ℕ → ℕ → Read B) {x : A} {y : B} {w v : List ℕ}
      → Reads r x w
      → ((at : ℕ) → Reads (more at x) y v)
      → Reads (λ s at. and_then (r s at) (λ z next. more at z s next)) y (w ++ v)
  onward_reads {r} more {x} {y} {w} {v} f g = record {
    found = λ s at h.
        rw (f.found s at (stands_left s at w v h))
        ((g at).found s (at + length w) (stands_right s at w v h) ∙ ap (λ (n : ℕ). got y n) (omega (arith, length-append w v)));
  }

  pub then_reads : {r : List ℕ → ℕ → Read A} (more : A → List ℕ → ℕ → Read B) {x : A} {y : B} {w v : List ℕ} → Reads r x w → Reads (more x) y v
      → Reads (λ s at. and_then (r s at) (λ z next. more z s next)) y (w ++ v)
  then_reads more f g = onward_reads (λ at. more) f (λ at. g)

  -- the last reading of a record
  pub last_reads : {r : List ℕ → ℕ → Read A} (f : A → B) {x : A} {w : List ℕ} → Reads r x w → Reads (λ s at. and_then (r s at) (λ z end. got (f z) end)) (f x) w
  last_reads f g = record { found = λ s at h. rw (g.found s at h) }

-- nothing to read
pub none_reads : {A : Type 0} (x : A) → Reads (λ s at. got x at) x []
none_reads x = record { found = λ s at h. rw add-zero }

module _ {A : Type 0} where
  pub checked_reads : {read : List ℕ → ℕ → Read A} {x : A} {w : List ℕ} (r : Fault) (test : A → Bool) → Reads read x w → test x ≡ true
      → Reads (λ s at. checked r test at (read s at)) x w
  checked_reads r test f t = record { found = λ s at h. rw (f.found s at h, t) }

  pub repeat_reads : (read : List ℕ → ℕ → Read A) (write : A → List ℕ) (test : A → Bool) → Back read write test → (xs : List A) → every test xs ≡ true
      → Reads (λ s at. repeat (read s) (length xs) at) xs (write_all write xs)
  unfolding repeat write_all every
  repeat_reads read write test b [] h = none_reads []
  repeat_reads read write test b (x ∷ xs) h =
      let t = both_true (test x) (every test xs) h in
      then_reads _ (b x t.0) (last_reads _ (repeat_reads read write test b xs t.1))
