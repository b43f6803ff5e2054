-- What a list does, by its verdict and the state check.
use Prim.{tt}
use Rattle.std.specs.Prelude.{ℕ, true, false, ◌≡◌, List, None}
use Rattle.std.proofs.Math.Path.{refl}
use Rattle.std.proofs.Common.{ap}
use Rattle.words.specs.Bytes.{AreBytes}
use Rattle.refusals.specs.declared.Refusal.TheVariants.{BadState, ListUnfit}
use Rattle.model.specs.Answers.{Refused}
use Rattle.model.specs.Formed.{formed}
use Rattle.model.specs.Chain.{State, Chain, left_by}
use Rattle.lists.specs.declared.Verdict.{Verdict}
use Rattle.lists.specs.declared.Verdict.TheVariants as verdict
use Rattle.lists.specs.Lent as lent
use Rattle.lists.specs.OneByOne.{Outcome, ended, calls_by, outcome_by, lent_state, Lists}
use Rattle.lists.specs.Running.{Ran}

module _ (us bytes ws bs : List ℕ) (clean : AreBytes bytes) (kept : AreBytes bs) where
  -- by the verdict
  lists : (v : Verdict) → lent.verdict us bytes ≡ v → (r : Outcome) (ws' bs' : List ℕ) → r ≡ outcome_by v (lent.lines_of us bytes) (lent_state ws bs)
      → lent_state ws' bs' ≡ left_by (calls_by v (lent.lines_of us bytes) (lent_state ws bs)) (lent_state ws bs)
      → Chain (calls_by v (lent.lines_of us bytes) (lent_state ws bs)) (lent_state ws bs) → Lists us bytes ws bs r ws' bs'
  lists v is r ws' bs' e left chain = record {
    ends = rw is e;
    words = rw is (ap (λ (s : State). s.words) left);
    arena = rw is (ap (λ (s : State). s.arena) left);
    chain = rw is chain;
    lent_bytes = clean;
    lent_arena = kept;
  }

  pub lists_none : lent.verdict us bytes ≡ verdict.NoList → Lists us bytes ws bs None ws bs
  unfolding left_by Chain
  lists_none is = lists verdict.NoList is None ws bs refl refl tt

  pub lists_unfit : lent.verdict us bytes ≡ verdict.Unfit → formed ws bs ≡ true → Lists us bytes ws bs (ended (Refused ListUnfit) 0) ws bs
  unfolding left_by Chain
  lists_unfit is h = lists verdict.Unfit is (ended (Refused ListUnfit) 0) ws bs (rw h) refl tt

  pub lists_unfit_bad : lent.verdict us bytes ≡ verdict.Unfit → formed ws bs ≡ false → Lists us bytes ws bs (ended (Refused BadState) 0) ws bs
  unfolding left_by Chain
  lists_unfit_bad is h = lists verdict.Unfit is (ended (Refused BadState) 0) ws bs (rw h) refl tt

  pub lists_fit_bad : lent.verdict us bytes ≡ verdict.Fit → formed ws bs ≡ false → Lists us bytes ws bs (ended (Refused BadState) 0) ws bs
  unfolding left_by Chain
  lists_fit_bad is h = lists verdict.Fit is (ended (Refused BadState) 0) ws bs (rw h) (rw h) (rw h tt)

  pub lists_fit : lent.verdict us bytes ≡ verdict.Fit → formed ws bs ≡ true → (r : Outcome) (ws' bs' : List ℕ) → Ran us bytes ws bs r ws' bs' → Lists us bytes ws bs r ws' bs'
  lists_fit is h r ws' bs' ran = lists verdict.Fit is r ws' bs' (rw h ran.ends) (rw h ran.left) (rw h ran.chain)
