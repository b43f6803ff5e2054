-- What the answers of the reading functions say, each as a reading.
use Prim.{Unit, tt}
use Rattle.std.specs.Prelude.{ℕ, ◌-◌, List, Result, Ok, Err}
use Rattle.words.specs.Parts.{region}
use Rattle.faults.specs.declared.FileError.{FileError}
use Rattle.fields.specs.declared.cursor.Cursor.{Cursor}
use Rattle.format.specs.Read.{Read, got, bad}

-- a value and the cursor past it, of which something is kept; or the fault and its place
abbrev pub read_of : {A B : Type 0} → (A → Cursor → B) → Result (A × Cursor) FileError → Read B
read_of keep (Ok (x, next)) = got (keep x next) next.at
read_of keep (Err e) = bad e.0 e.1

-- a number and the cursor past it
abbrev pub number_of : Result (ℕ × Cursor) FileError → Read ℕ
number_of = read_of (λ n next. n)

-- a name: where its bytes start in the file, and the cursor past them
abbrev pub text_of : List ℕ → Result (ℕ × Cursor) FileError → Read (List ℕ)
text_of s = read_of (λ start next. region start (next.at - start) s)

-- a part of the file that was read, of which only the end is fact
abbrev pub step_of : Result Cursor FileError → Read (Unit {0})
step_of (Ok next) = got tt next.at
step_of (Err e) = bad e.0 e.1
