-- What a call answers, in four cases: done, done with a reply of so many bytes, refused by the table, refused at a place in a file.
use Rattle.std.specs.Prelude.{ℕ, Result, Ok, Err}
use Rattle.faults.specs.declared.Fault.{Fault}
use Rattle.refusals.specs.declared.Refusal.{Refusal}
use Rattle.model.specs.declared.Accepted.{Accepted}
use Rattle.model.specs.declared.Accepted.TheVariants as accepted
use Rattle.model.specs.declared.Denied.{Denied}
use Rattle.model.specs.declared.Denied.TheVariants as denied

abbrev pub Answer : Type 0
Answer = Result Accepted Denied

abbrev pub Done : Answer
Done = Ok accepted.Done

abbrev pub Replied : ℕ → Answer
Replied n = Ok (accepted.Replied n)

abbrev pub Refused : Refusal → Answer
Refused r = Err (denied.Refused r)

abbrev pub RefusedAt : Fault → ℕ → Answer
RefusedAt r at = Err (denied.RefusedAt r at)

-- what a command answers that is done or refused by the table, and a query that is replied to or refused so
abbrev pub done_or : {A : Type 0} → Result A Refusal → Answer
done_or (Ok x) = Done
done_or (Err r) = Refused r

abbrev pub replied_or : Result ℕ Refusal → Answer
replied_or (Ok n) = Replied n
replied_or (Err r) = Refused r
