-- The refusal table never answers 1.
use Rattle.std.specs.Prelude.{ℕ, Bool, true, false, ◌≡◌, List, length, ltb, Ok, Err}
use Rattle.std.proofs.Common.{arith}
use Rattle.std.proofs.lemmas.Bool.{eqb-false, not-true}
use Rattle.words.specs.Choice.{pick}
use Rattle.faults.specs.FaultsLaws.{fault_low}
use Rattle.refusals.specs.declared.Refusal.TheVariants.{NoRoom}
use Rattle.refusals.specs.Refusals.{number_of}
use Rattle.model.specs.declared.Command.{Command}
use Rattle.model.specs.declared.Command.TheVariants as command
use Rattle.model.specs.declared.Accepted.TheVariants as accepted
use Rattle.model.specs.declared.Denied.TheVariants as denied
use Rattle.model.specs.Answers.{Answer}
use Rattle.model.specs.Answers.{Done, Replied, Refused, RefusedAt}
use Rattle.model.specs.Engine.{Engine}
use Rattle.model.specs.Checks.{first_of}
use Rattle.model.specs.Replies.{reply}
use Rattle.model.specs.Apply.{query_answer, answer_in}
use Rattle.model.specs.Demands.{refusal_in}
use Rattle.state.specs.Refusing.{is_refusal, by_checks}

refused : (a : Answer) → is_refusal a ≡ true → refusal_in a ≡ 1 → ⊥
refused (Ok accepted.Done) h q = omega arith
refused (Ok (accepted.Replied n)) h q = omega arith
refused (Err (denied.Refused r)) h q = eqb-false (number_of r) 1 (not-true _ h) q
refused (Err (denied.RefusedAt r at)) h q = omega (arith, fault_low r)

room_left : (n : ℕ) (b : Bool) → refusal_in (pick b (Refused NoRoom) (Replied n)) ≡ 1 → ⊥
room_left n true q = omega arith
room_left n false q = omega arith

-- Demand 3: never refusal 1
pub never_one : (c : Command) (bytes : List ℕ) (e : Engine) (room : ℕ) → refusal_in (answer_in c bytes e room) ≡ 1 → ⊥
unfolding answer_in query_answer first_of
never_one (command.Definitions c) bytes e room = by_checks (λ a. refusal_in a ≡ 1 → ⊥) refused (command.Definitions c) bytes e Done (λ p q. omega arith)
never_one (command.Tree c) bytes e room = by_checks (λ a. refusal_in a ≡ 1 → ⊥) refused (command.Tree c) bytes e Done (λ p q. omega arith)
never_one (command.Controls c) bytes e room = by_checks (λ a. refusal_in a ≡ 1 → ⊥) refused (command.Controls c) bytes e Done (λ p q. omega arith)
never_one (command.Buses c) bytes e room = by_checks (λ a. refusal_in a ≡ 1 → ⊥) refused (command.Buses c) bytes e Done (λ p q. omega arith)
never_one (command.Query q) bytes e room =
    by_checks (λ a. refusal_in a ≡ 1 → ⊥) refused (command.Query q) bytes e _ (λ p. room_left (length (reply q bytes e)) (ltb room (length (reply q bytes e))))
