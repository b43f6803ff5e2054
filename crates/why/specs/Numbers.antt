-- What is told as one number: the low byte is the refusal's number or 0, the second byte the reason, 1 to 5 in the paper's order; from bit 16 on,
-- 32 bits: the ancestor's number, or the place, else 0.
use Rattle.std.specs.Prelude.{ℕ, ◌+◌, ◌*◌, Result, Ok, Err}
use Rattle.refusals.specs.declared.Refusal.{Refusal}
use Rattle.refusals.specs.Refusals.{number_of}
use Rattle.why.specs.declared.Reason.{Reason}
use Rattle.why.specs.declared.Reason.TheVariants.{NoNode, Group, Off, AncestorOff, Running}

abbrev pub reason_number : Reason → ℕ
reason_number NoNode = 1
reason_number Group = 2
reason_number Off = 3
reason_number (AncestorOff m) = 4
reason_number (Running place) = 5

abbrev pub detail_of : Reason → ℕ
detail_of NoNode = 0
detail_of Group = 0
detail_of Off = 0
detail_of (AncestorOff m) = m
detail_of (Running place) = place

abbrev pub told_number : Result Reason Refusal → ℕ
told_number (Err r) = number_of r
told_number (Ok r) = 256 * reason_number r + 65536 * detail_of r
