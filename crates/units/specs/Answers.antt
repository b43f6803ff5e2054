-- What the answers of the functions that read units say, each as a reading.
use Rattle.std.specs.Prelude.{ℕ, Result}
use Rattle.faults.specs.declared.FileError.{FileError}
use Rattle.fields.specs.declared.cursor.Cursor.{Cursor}
use Rattle.fields.specs.Answers.{read_of}
use Rattle.format.specs.Read.{Read}

-- a unit's counts of inputs and outputs, and the cursor past it
abbrev pub unit_of : Result ((ℕ × ℕ) × Cursor) FileError → Read (ℕ × ℕ)
unit_of = read_of (λ counts next. counts)
