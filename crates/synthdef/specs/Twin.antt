-- An accepted file's version and its twin. Paper 02, 4/14: "a version 1 file must load as its widened twin does".
use Rattle.std.specs.Prelude.{ℕ, ◌≡◌, List, [], ◌++◌, length, drop, leb}
use Rattle.words.specs.Choice.{pick}
use Rattle.format.specs.Read.{Read, got, bad, on_read}
use Rattle.format.specs.Definition.{Definition}
use Rattle.format.specs.Reader.{version_in, read_file}
use Rattle.format.specs.Writer.{write_file}

-- the definitions of an accepted file
abbrev pub definitions_in : List ℕ → List Definition
definitions_in s = on_read (read_file s) [] (λ ds end. ds)

-- the file of version 2 with the same definitions
abbrev pub twin : List ℕ → List ℕ
twin s = write_file (definitions_in s)

-- a file is accepted, with so many definitions
pub record Accepted (s : List ℕ) (count : ℕ) : Type 0 where
  pub end : ℕ
  pub read : read_file s ≡ got (definitions_in s) end
  pub many : length (definitions_in s) ≡ count

-- the version of an accepted file, 0 of one that is refused
abbrev pub accepted_version : List ℕ → ℕ
accepted_version s = on_read (read_file s) 0 (λ ds end. version_in s)

-- the twin of an accepted file, where it has room: its length, and what becomes of the bytes that it is written to; else 0, and they stay
abbrev pub widened_length : Read (List Definition) → List ℕ → ℕ
widened_length (got ds end) out = pick (leb (length (write_file ds)) (length out)) (length (write_file ds)) 0
widened_length (bad r at) out = 0

abbrev pub widened_bytes : Read (List Definition) → List ℕ → List ℕ
widened_bytes (got ds end) out = pick (leb (length (write_file ds)) (length out)) (write_file ds ++ drop (length (write_file ds)) out) out
widened_bytes (bad r at) out = out

pub record Widens (s before after : List ℕ) (answer : ℕ) : Type 0 where
  pub length : answer ≡ widened_length (read_file s) before
  pub bytes : after ≡ widened_bytes (read_file s) before
