-- Laws of `Faults`.
use Rattle.std.specs.Prelude.{◌≤◌}
use Rattle.std.proofs.Common.{arith}
use Rattle.faults.specs.declared.Fault.{Fault}
use Rattle.faults.specs.declared.Fault.TheVariants.{Truncated, NotSynthDef, BadVersion, BadCount, BadName, BadRate, BadIndex, TooLong, NameTwice, BytesLeft}
use Rattle.faults.specs.Faults.{fault_number}

-- from 2 to 11
pub fault_low : (f : Fault) → 2 ≤ fault_number f
fault_low Truncated = omega arith
fault_low NotSynthDef = omega arith
fault_low BadVersion = omega arith
fault_low BadCount = omega arith
fault_low BadName = omega arith
fault_low BadRate = omega arith
fault_low BadIndex = omega arith
fault_low TooLong = omega arith
fault_low NameTwice = omega arith
fault_low BytesLeft = omega arith

pub fault_high : (f : Fault) → fault_number f ≤ 11
fault_high Truncated = omega arith
fault_high NotSynthDef = omega arith
fault_high BadVersion = omega arith
fault_high BadCount = omega arith
fault_high BadName = omega arith
fault_high BadRate = omega arith
fault_high BadIndex = omega arith
fault_high TooLong = omega arith
fault_high NameTwice = omega arith
fault_high BytesLeft = omega arith
