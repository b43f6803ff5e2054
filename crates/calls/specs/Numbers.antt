-- An answer as one number of 64 bits.
use Rattle.std.specs.Prelude.{ℕ, ◌+◌, ◌*◌, ◌%◌, Ok, Err}
use Rattle.faults.specs.Faults.{fault_number}
use Rattle.refusals.specs.Refusals.{number_of}
use Rattle.model.specs.declared.Accepted.TheVariants as accepted
use Rattle.model.specs.declared.Denied.TheVariants as denied
use Rattle.model.specs.Answers.{Answer}
use Rattle.model.specs.Answers.{Done, Replied, Refused, RefusedAt}

-- what the 64 bits leave for a place or a length: 2^56
abbrev pub room : ℕ
room = 72057594037927936

-- the refusal's number (0 accepted) plus 256 times the place (refusals 2 to 11) or the length written: of a number past the room its remainder
abbrev pub call_number : Answer → ℕ
call_number (Ok accepted.Done) = 0
call_number (Ok (accepted.Replied n)) = 256 * (n % room)
call_number (Err (denied.Refused r)) = number_of r
call_number (Err (denied.RefusedAt r at)) = fault_number r + 256 * (at % room)

-- the answer to a call that names no command
abbrev pub no_command : ℕ
no_command = 255

-- what no machine's files and buffers reach: a place and a length within the room are given whole
abbrev pub reach : Answer → ℕ
reach (Ok accepted.Done) = 0
reach (Ok (accepted.Replied n)) = n
reach (Err (denied.Refused r)) = 0
reach (Err (denied.RefusedAt r at)) = at
