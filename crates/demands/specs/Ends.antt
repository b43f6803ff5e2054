-- Demand 1: what every call ends in.
use Rattle.std.specs.Prelude.{ℕ, Bool, refl, List, length, Ok, Err}
use Rattle.std.proofs.Math.Bool.{true, false}
use Rattle.std.proofs.Math.Path.{◌≡◌}
use Rattle.std.proofs.Common.{sym, ap, ap₂, ◌∙◌, arith}
use Rattle.words.specs.Choice.{pick}
use Rattle.refusals.specs.declared.Refusal.TheVariants.{BadState}
use Rattle.model.specs.declared.Accepted.TheVariants as accepted
use Rattle.model.specs.declared.Denied.TheVariants as denied
use Rattle.model.specs.Answers.{Answer}
use Rattle.model.specs.Answers.{Done, Replied, Refused, RefusedAt}
use Rattle.model.specs.Formed.{formed}
use Rattle.model.specs.After.{words_after, arena_after}
use Rattle.model.specs.Apply.{answer_in, answer, is_accepted, written, reply_of}
use Rattle.model.specs.Chain.{State, engine_in, Call, Applied}
use Rattle.model.specs.Demands.{Demand1}
use Rattle.refinement.specs.Stepped.{Stepped, stepped}

-- a refusal writes nothing
pub unwritten : (a : Answer) (reply out : List ℕ) → is_accepted a ≡ false → written a reply out ≡ out
unwritten (Ok accepted.Done) reply out h = cc
unwritten (Ok (accepted.Replied n)) reply out h = cc
unwritten (Err (denied.Refused r)) reply out h = refl
unwritten (Err (denied.RefusedAt r at)) reply out h = refl

module _ (c : Call) (s : State) (d : Applied c s) where
  -- the answer is the table's
  same : is_accepted (answer c.command c.bytes s.words s.arena c.out) ≡ is_accepted c.answer
  same = ap is_accepted (sym d.answers)

  -- the state after a call that was accepted, and after one that was refused
  accepted_left : is_accepted c.answer ≡ true
      → c.left ≡ record { words = words_after c.command c.bytes s.words s.arena; arena = arena_after c.command c.bytes s.words s.arena }
  accepted_left h =
      let g = same ∙ h in
      ap₂ (λ (ws bs : List ℕ). record { words = ws; arena = bs }) (d.words ∙ rw g) (d.arena ∙ rw g)

  refused_left : is_accepted c.answer ≡ false → c.left ≡ s
  refused_left h =
      let g = same ∙ h in
      ap₂ (λ (ws bs : List ℕ). record { words = ws; arena = bs }) (d.words ∙ rw g) (d.arena ∙ rw g)

  -- an accepted command was given in a well-formed state
  accepted_formed : is_accepted c.answer ≡ true
      → (formed s.words s.arena ≡ true) × (is_accepted (answer_in c.command c.bytes (engine_in s) (length c.out)) ≡ true)
  unfolding answer
  accepted_formed h = go (formed s.words s.arena) (same ∙ h)
    where
      go : (b : Bool) → is_accepted (pick b (answer_in c.command c.bytes (engine_in s) (length c.out)) (Refused BadState)) ≡ true
          → (b ≡ true) × (is_accepted (answer_in c.command c.bytes (engine_in s) (length c.out)) ≡ true)
      go true q = (refl, q)
      go false q = let z : ◌≡◌ {A = ℕ} 0 1 = cc in absurd (omega arith)

  step : is_accepted c.answer ≡ true → Stepped c.command c.bytes s.words s.arena
  step h =
      let f = accepted_formed h in
      stepped c.command c.bytes s.words s.arena d.lent_bytes f.0 (length c.out) f.1

  -- the reply buffer, by the answer that was given
  pub reply_left : c.reply ≡ written c.answer (reply_of c.command c.bytes (engine_in s)) c.out
  reply_left = d.reply ∙ ap (λ (a : Answer). written a (reply_of c.command c.bytes (engine_in s)) c.out) (sym d.answers)

pub demand1 : Demand1
demand1 c s d = record {
  table = d.answers;
  effected = λ h. ap engine_in (accepted_left c s d h) ∙ (step c s d h).effected;
  replied = λ h. reply_left c s d;
  kept = λ h. ap (λ (x : State). formed x.words x.arena) (accepted_left c s d h) ∙ (step c s d h).kept;
  unchanged = λ h. (refused_left c s d h, reply_left c s d ∙ unwritten c.answer (reply_of c.command c.bytes (engine_in s)) c.out h);
}
