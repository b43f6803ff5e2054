-- Laws of `Calls`.
use Rattle.std.specs.Prelude.{ℕ, ◌≤◌, Bool, true, false, ◌≡◌, List}
use Rattle.std.proofs.Common.{subst, arith}
use Rattle.words.specs.Choice.{pick}
use Rattle.refusals.specs.declared.Refusal.TheVariants.{BadState}
use Rattle.values.specs.declared.NodeArgument.{NodeArgument}
use Rattle.values.specs.Targets.{argument}
use Rattle.model.specs.Answers.{Answer}
use Rattle.model.specs.Answers.{Done, Refused}
use Rattle.model.specs.Apply.{sized, fresh_answer}
use Rattle.model.specs.Demands.{refusal_in}
use Rattle.settings.specs.Settings.{Saved, Saves}
use Rattle.settings.specs.Recalling.{Recalls}
use Rattle.settings.specs.Numbers.{saved_number}
use Rattle.calls.specs.Numbers.{call_number}
use Rattle.engine.specs.Calls.{Stored, Recalled}

-- a fresh engine's number is 0 or 1
pub fresh_small : (ws bs : List ℕ) → call_number (fresh_answer ws bs) ≤ 1
unfolding fresh_answer
fresh_small ws bs = go (sized ws bs)
  where
    go : (b : Bool) → call_number (pick b Done (Refused BadState)) ≤ 1
    go true = omega arith
    go false = omega arith

-- a save and a recall of the node that an argument names, which is a number's
pub stored : (n : ℕ) (a : NodeArgument) → a ≡ argument n → (ws bs store : List ℕ) (saved : Saved) (r : ℕ) (store' : List ℕ) → r ≡ saved_number saved
    → Saves a ws bs store saved store' → Stored (argument n) ws bs store r store'
stored n a is ws bs store saved r store' number saves = record {
  saved = saved;
  number = number;
  saves = subst (λ (x : NodeArgument). Saves x ws bs store saved store') is saves;
}

pub recalled : (name : List ℕ) (version n : ℕ) (a : NodeArgument) → a ≡ argument n → (store ws bs : List ℕ) (answer : Answer) (r : ℕ) (ws' : List ℕ) → r ≡ refusal_in answer
    → Recalls name version a store ws bs answer ws' → Recalled name version (argument n) store ws bs r ws'
recalled name version n a is store ws bs answer r ws' number recalls = record {
  answer = answer;
  number = number;
  recalls = subst (λ (x : NodeArgument). Recalls name version x store ws bs answer ws') is recalls;
}
