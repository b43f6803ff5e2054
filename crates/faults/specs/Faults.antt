-- The numbers of a file's faults: paper 01, "Refusal numbers". "All return only the number (2 to 11 also the place)": these are 2 to 11.
use Rattle.std.specs.Prelude.{ℕ}
use Rattle.faults.specs.declared.Fault.{Fault}
use Rattle.faults.specs.declared.Fault.TheVariants.{Truncated, NotSynthDef, BadVersion, BadCount, BadName, BadRate, BadIndex, TooLong, NameTwice, BytesLeft}

abbrev pub fault_number : Fault → ℕ
-- "file truncated"
fault_number Truncated = 2
-- "not "SCgf"; version not 2"
fault_number NotSynthDef = 3
fault_number BadVersion = 4
-- "count out of bounds"
fault_number BadCount = 5
-- "bad name; bad rate; bad index in a file"
fault_number BadName = 6
fault_number BadRate = 7
fault_number BadIndex = 8
-- "definition too long; name twice; bytes after the end"
fault_number TooLong = 9
fault_number NameTwice = 10
fault_number BytesLeft = 11
