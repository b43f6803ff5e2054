-- A file whose definitions can be read is loaded as its twin is: the same answer but for the place, and the same state.
use Rattle.std.specs.Prelude.{ℕ, Bool, refl, List}
use Rattle.std.proofs.Math.Bool.{true, false}
use Rattle.std.proofs.Math.Path.{◌≡◌, sym}
use Rattle.std.proofs.Common.{ap, ◌∙◌, arith}
use Rattle.words.specs.Choice.{pick}
use Rattle.faults.specs.declared.Fault.{Fault}
use Rattle.refusals.specs.declared.Refusal.TheVariants.{BadState}
use Rattle.format.specs.Read.{Read, got, bad}
use Rattle.format.specs.Definition.{Definition}
use Rattle.format.specs.Reader.{read_file}
use Rattle.model.specs.Answers.{Refused, RefusedAt}
use Rattle.model.specs.Formed.{formed}
use Rattle.model.specs.Checks.{first_of}
use Rattle.model.specs.Effects.{effect}
use Rattle.model.specs.After.{words_after, arena_after}
use Rattle.model.specs.Apply.{answer_in, answer, is_accepted}
use Rattle.model.specs.Demands.{receive, refusal_in}
use Rattle.roundtrip.specs.Twin.{Agree}

pub record SameLoad (a b words arena out : List ℕ) : Type 0 where
  pub number : refusal_in (answer receive a words arena out) ≡ refusal_in (answer receive b words arena out)
  pub accepted : is_accepted (answer receive a words arena out) ≡ is_accepted (answer receive b words arena out)
  pub left : is_accepted (answer receive a words arena out) ≡ true
      → (words_after receive a words arena ≡ words_after receive b words arena) × (arena_after receive a words arena ≡ arena_after receive b words arena)

module _ (a b words arena out : List ℕ) where
  -- a file without a fault of its own beside another of the same definitions
  same_definitions : {ds : List Definition} {p q : ℕ} → read_file a ≡ got ds p → read_file b ≡ got ds q → SameLoad a b words arena out
  unfolding answer answer_in words_after arena_after effect
  same_definitions e f = record { number = rw (e, f); accepted = rw (e, f); left = λ h. (rw (e, f), rw (e, f)) }

  -- a refusal for a fault: its number, and that it is none else
  refused : (c : Bool) (r : Fault) (p q : ℕ) → refusal_in (pick c (RefusedAt r p) (Refused BadState)) ≡ refusal_in (pick c (RefusedAt r q) (Refused BadState))
  refused true r p q = refl
  refused false r p q = refl

  not_accepted : (c : Bool) (r : Fault) (p : ℕ) → is_accepted (pick c (RefusedAt r p) (Refused BadState)) ≡ false
  not_accepted true r p = refl
  not_accepted false r p = refl

  same_fault : {r : Fault} {p q : ℕ} → read_file a ≡ bad r p → read_file b ≡ bad r q → SameLoad a b words arena out
  unfolding answer answer_in first_of
  same_fault {r} {p} {q} e f =
      let no-a : is_accepted (answer receive a words arena out) ≡ false = rw e (not_accepted (formed words arena) r p) in
      let no-b : is_accepted (answer receive b words arena out) ≡ false = rw f (not_accepted (formed words arena) r q) in
      record {
        number = rw (e, f) (refused (formed words arena) r p q);
        accepted = no-a ∙ sym no-b;
        left = λ h. absurd (let z : ◌≡◌ {A = Bool} true false = sym h ∙ no-a in let y : ◌≡◌ {A = ℕ} 0 1 = cc in omega arith);
      }

  pub same_load : Agree (read_file a) (read_file b) → SameLoad a b words arena out
  same_load g = by (read_file a) refl (read_file b) refl g
    where
      by : (r : Read (List Definition)) → read_file a ≡ r → (t : Read (List Definition)) → read_file b ≡ t → Agree r t → SameLoad a b words arena out
      by (got ds p) e (got es q) f h = same_definitions e (f ∙ ap (λ (l : List Definition). got l q) (sym h))
      by (got ds p) e (bad s q) f h = absurd h
      by (bad r p) e (got es q) f h = absurd h
      by (bad r p) e (bad s q) f h = same_fault e (f ∙ ap (λ (x : Fault). bad x q) (sym h))
