-- What the functions on a whole file answer.
use Prim.{Unit}
use Rattle.std.specs.Prelude.{ℕ, ◌+◌, ◌≤◌, ◌<◌, List, map, length, get_or, Result, Ok, Err}
use Rattle.faults.specs.Faults.{fault_number}
use Rattle.faults.specs.declared.FileError.{FileError}
use Rattle.format.specs.Read.{Read, got, bad, and_then, ending}
use Rattle.format.specs.Fields.{string_at}
use Rattle.format.specs.Definition.{Definition}
use Rattle.format.specs.declared.Width.{Width}
use Rattle.format.specs.Reader.{fits, definition_by}

-- how many definitions a file has, or why it is refused and at which place
abbrev pub verdict : Read (List Definition) → Result ℕ FileError
verdict (got ds end) = Ok (length ds)
verdict (bad r at) = Err (record { 0 = r; 1 = at })

-- the names of the definitions that start at some places
abbrev pub names_from : List ℕ → List ℕ → List (List ℕ)
names_from s starts = map (string_at s) starts

-- a definition behind those of some names, of which only the end is fact
abbrev pub skip_fitting : Width → List ℕ → List (List ℕ) → ℕ → Read (Unit {0})
skip_fitting w s names at = ending (and_then (definition_by w s at) (λ d next. fits names at d next))

-- "File: "SCgf", int32 version 2, int16 count D, then D definitions": the first one starts here
abbrev pub first_place : ℕ
first_place = 10

-- 0, or the refusal's number
abbrev pub refusal_number : Result ℕ FileError → ℕ
refusal_number (Ok n) = 0
refusal_number (Err e) = fault_number e.0

-- the refusal's place, or 0
abbrev pub refusal_place : Result ℕ FileError → ℕ
refusal_place (Ok n) = 0
refusal_place (Err e) = e.1

-- how many definitions are in an accepted file
abbrev pub definition_count : Result ℕ FileError → ℕ
definition_count (Ok n) = n
definition_count (Err e) = 0

-- the name at a place lies whole in the file, and is not empty
pub record Named (s : List ℕ) (at : ℕ) : Type 0 where
  pub some : 0 < get_or s at 0
  pub inside : at + 1 + get_or s at 0 ≤ length s
