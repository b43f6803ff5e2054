-- Laws of `Numbers`.
use Rattle.std.specs.Prelude.{ℕ, ◌+◌, ◌*◌, ◌<◌, ◌≡◌, refl, Ok, Err}
use Rattle.std.proofs.Common.{ap, mod-eq_of_lt}
use Rattle.faults.specs.Faults.{fault_number}
use Rattle.model.specs.declared.Accepted.TheVariants as accepted
use Rattle.model.specs.declared.Denied.TheVariants as denied
use Rattle.model.specs.Answers.{Answer}
use Rattle.model.specs.Answers.{Done, Replied, Refused, RefusedAt}
use Rattle.model.specs.Apply.{answer_number}
use Rattle.calls.specs.Numbers.{room, call_number, reach}

pub number_whole : (a : Answer) → reach a < room → call_number a ≡ answer_number a
number_whole (Ok accepted.Done) h = refl
number_whole (Ok (accepted.Replied n)) h = ap (λ (k : ℕ). 256 * k) (mod-eq_of_lt h)
number_whole (Err (denied.Refused r)) h = refl
number_whole (Err (denied.RefusedAt r at)) h = ap (λ (k : ℕ). fault_number r + 256 * k) (mod-eq_of_lt h)
