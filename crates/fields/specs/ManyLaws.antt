-- Laws of parts that are skipped one after the other.
use Rattle.std.specs.Prelude.{ℕ, zero, suc, ◌≡◌, refl}
use Rattle.std.proofs.Common.{sym, ◌∙◌}
use Rattle.format.specs.Read.{Read, got, bad, and_then, repeat, ending}
use Rattle.format.specs.RepeatLaws.{ending-suc}

-- of each part only the end is kept, or only of them all
pub each_ending : {A : Type 0} (read : ℕ → Read A) (n at : ℕ) → ending (repeat (λ p. ending (read p)) n at) ≡ ending (repeat read n at)
unfolding repeat
each_ending read zero at = refl
each_ending {A} read (suc n) at = ending-suc (λ p. ending (read p)) n at ∙ cases (each_ending read n) (read at) ∙ sym (ending-suc read n at) where
  cases : ((next : ℕ) → ending (repeat (λ p. ending (read p)) n next) ≡ ending (repeat read n next)) → (r : Read A)
      → and_then (ending r) (λ u next. ending (repeat (λ p. ending (read p)) n next)) ≡ and_then r (λ x next. ending (repeat read n next))
  cases same (got x next) = same next
  cases same (bad q place) = refl
