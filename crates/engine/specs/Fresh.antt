-- A fresh engine: what the call answers and leaves.
use Rattle.std.specs.Prelude.{ℕ, ◌≡◌, List, length}
use Rattle.std.proofs.Math.Path.{ap}
use Rattle.std.proofs.Common.{◌∙◌}
use Rattle.std.proofs.Math.ListN.{replicate}
use borrow.Author.Tests.{eq-eqb, ne_eqb}
use Rattle.refusals.specs.declared.Refusal.TheVariants.{BadState}
use Rattle.model.specs.Answers.{Done, Refused}
use Rattle.model.specs.Layout.{words_length, arena_length}
use Rattle.model.specs.After.{fresh_state}
use Rattle.model.specs.Apply.{fresh_answer, fresh_words, fresh_arenas, Freshly}

module _ (ws bs : List ℕ) where
  pub refused_size : (length ws ≡ words_length → ⊥) → Freshly ws bs (Refused BadState) ws bs
  unfolding fresh_answer fresh_words fresh_arenas
  refused_size h =
      let size = ne_eqb (length ws) words_length h in
      record { answers = rw size; words = rw size; arena = rw size }

  pub refused_room : length ws ≡ words_length → (length bs ≡ arena_length → ⊥) → Freshly ws bs (Refused BadState) ws bs
  unfolding fresh_answer fresh_words fresh_arenas
  refused_room size h =
      let right = eq-eqb (length ws) words_length size in
      let wrong = ne_eqb (length bs) arena_length h in
      record { answers = rw (right, wrong); words = rw (right, wrong); arena = rw (right, wrong) }

  pub made : (ws' bs' : List ℕ) → length ws ≡ words_length → length bs ≡ arena_length → ws' ≡ fresh_state → bs' ≡ replicate (length bs) 0 → Freshly ws bs Done ws' bs'
  unfolding fresh_answer fresh_words fresh_arenas
  made ws' bs' size room w b =
      let right = eq-eqb (length ws) words_length size in
      let long = eq-eqb (length bs) arena_length room in
      record {
        answers = rw (right, long);
        words = rw (right, long) w;
        arena = rw (right, long) (b ∙ ap (λ (n : ℕ). replicate n 0) room);
      }
