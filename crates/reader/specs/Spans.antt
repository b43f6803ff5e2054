-- Where the definitions of a file start and end, and where their names stand.
use Rattle.std.specs.Prelude.{ℕ, suc, ◌+◌, List, length, get_or, ltb, Option, Some, None}
use Rattle.words.specs.Choice.{pick}
use Rattle.format.specs.Read.{Read, got, bad, repeat}
use Rattle.format.specs.Definition.{Definition}
use Rattle.format.specs.Reader.{read_file}
use Rattle.reader.specs.Places.{definition_here}
use Rattle.files.specs.File.{first_place}

module _ {A : Type 0} where
  -- where a reading ends
  abbrev pub end_of : Read A → ℕ
  end_of (got x next) = next
  end_of (bad r at) = at

-- where the definition number i of a file starts: past the first i
abbrev pub definition_start : List ℕ → ℕ → ℕ
definition_start s i = end_of (repeat (definition_here s) i first_place)

-- where the definition number i starts and ends, in a file that is accepted and has as many
abbrev pub span_in : List ℕ → ℕ → Read (List Definition) → Option (ℕ × ℕ)
span_in s i (got ds end) = pick (ltb i (length ds)) (Some (definition_start s i, definition_start s (suc i))) None
span_in s i (bad r at) = None

unfoldable pub definition_span : List ℕ → ℕ → Option (ℕ × ℕ)
definition_span s i = span_in s i (read_file s)

-- the place of a definition's name, behind the byte that is its length, and the place past it; or 0
abbrev pub name_start : Option (ℕ × ℕ) → ℕ
name_start (Some span) = span.0 + 1
name_start None = 0

abbrev pub name_end : List ℕ → Option (ℕ × ℕ) → ℕ
name_end s (Some span) = span.0 + 1 + get_or s span.0 0
name_end s None = 0
