-- What a reader meets at a place of a file.
use Rattle.std.specs.Prelude.{ℕ, zero, suc, ◌-◌, Bool, ◌≡◌, List, [], length, leb, Option, Some, None, Result, Ok, Err}
use Rattle.words.specs.Bytes.{AreBytes}
use Rattle.words.specs.Parts.{region}
use Rattle.faults.specs.declared.FileError.{FileError}
use Rattle.format.specs.Definition.{Definition}
use Rattle.format.specs.Reader.{definition_by, file_width}
use Rattle.files.specs.File.{first_place}
use Rattle.format.specs.Read.{Read, on_read}

-- the definition that starts at a place of a file, by the width of the file's fields
abbrev pub definition_here : List ℕ → ℕ → Read Definition
definition_here s at = definition_by (file_width s) s at

-- where a reader of a file starts: at the first definition, and at the end of a file that is refused
abbrev pub start_of : List ℕ → Result ℕ FileError → ℕ
start_of s (Ok n) = first_place
start_of s (Err e) = length s

-- the promise of that place; what is lent as bytes is bytes
pub record Starts (s : List ℕ) (checked : Result ℕ FileError) (r : ℕ) : Type 0 where
  pub starts : r ≡ start_of s checked
  pub lent_file : AreBytes s

-- no definition is left
abbrev pub ended_at : List ℕ → ℕ → Bool
ended_at s at = leb (length s) at

-- the place past the definition that starts at a place, and the file's end where none can be read
abbrev pub place_after : List ℕ → ℕ → ℕ
place_after s at = on_read (definition_here s at) (length s) (λ d next. next)

-- the place past so many definitions, and the file's end where there are fewer
unfoldable pub place_past : List ℕ → ℕ → ℕ → ℕ
place_past s zero at = at
place_past s (suc n) at = place_past s n (place_after s at)

-- where the definition that starts at a place starts and ends, and none where none can be read
abbrev pub span_at : List ℕ → ℕ → Option (ℕ × ℕ)
span_at s at = on_read (definition_here s at) None (λ d next. Some (at, next))

-- the definition's own bytes, and none where none can be read
abbrev pub bytes_at : List ℕ → ℕ → List ℕ
bytes_at s at = on_read (definition_here s at) [] (λ d next. region at (next - at) s)
