-- What the functions on a definition's front answer, as readings.
use Rattle.std.specs.Prelude.{ℕ, ◌+◌, ◌*◌, ◌-◌, List, length, Result}
use Rattle.words.specs.Parts.{region}
use Rattle.faults.specs.declared.FileError.{FileError}
use Rattle.fields.specs.declared.cursor.Cursor.{Cursor}
use Rattle.fields.specs.Answers.{read_of}
use Rattle.front.specs.declared.Counts.{Counts}
use Rattle.front.specs.declared.Entry.{Entry}
use Rattle.front.specs.declared.Floats.{Floats}
use Rattle.format.specs.Read.{Read, got, and_then, repeat, ending}
use Rattle.format.specs.declared.Width.{Width}
use Rattle.format.specs.Fields.{float32, definition_name, size_of, count_to_by, count_by, highest32}
use Rattle.format.specs.Definition.{ParameterName, Front}
use Rattle.format.specs.Reader.{most_parameters, parameter_name_by}

-- a parameter name: its bytes from start to end, and its index
abbrev pub entry_of : List ℕ → Result (Entry × Cursor) FileError → Read ParameterName
entry_of s = read_of (λ e next. record { name = region e.start (e.end - e.start) s; index = e.index })

abbrev pub floats_of : Result (Floats × Cursor) FileError → Read Floats
floats_of = read_of (λ f next. f)

abbrev pub counts_read : Result (Counts × Cursor) FileError → Read Counts
counts_read = read_of (λ c next. c)

-- a count, and as many floats behind it: how many, and where they start
abbrev pub counted_floats : Width → ℕ → List ℕ → ℕ → Read Floats
counted_floats w most s at =
    and_then (count_to_by w most s at) (λ k p.
    and_then (ending (repeat (float32 s) k p)) (λ t end.
    got (record { count = k; at = p }) end))

-- from its count of parameters up to its first parameter name, behind a name that ends at a place and so many constants
abbrev pub counts_from_values : Width → List ℕ → ℕ → ℕ → ℕ → Read Counts
counts_from_values w s past constants at =
    and_then (counted_floats w most_parameters s at) (λ v p3.
    and_then (count_by w s p3) (λ many p4.
    got (record { past = past; constants = constants; values = v.at; parameters = v.count; first = p4; names = many }) p4))

-- the front up to its first parameter name
abbrev pub read_counts : Width → List ℕ → ℕ → Read Counts
read_counts w s at =
    and_then (definition_name s at) (λ n p1.
    and_then (counted_floats w highest32 s p1) (λ k p2.
    counts_from_values w s p1 k.count p2))

-- and its parameter names, of which only the end is kept
abbrev pub read_names : Width → List ℕ → Counts → ℕ → Read Counts
read_names w s c at = and_then (ending (repeat (parameter_name_by w c.parameters s) c.names at)) (λ t end. got c end)

-- the places in a front that starts at a place: each count is as wide as the file's fields, and each float has four bytes
abbrev pub name_end : ℕ → Front → ℕ
name_end at f = at + (1 + length f.name)

abbrev pub values_at : Width → ℕ → Front → ℕ
values_at w at f = name_end at f + size_of w + 4 * length f.constants + size_of w

abbrev pub names_at : Width → ℕ → Front → ℕ
names_at w at f = values_at w at f + 4 * length f.values + size_of w

-- what is kept of a front: its counts and places
abbrev pub counts_of : Width → ℕ → Front → Counts
counts_of w at f = record {
  past = name_end at f;
  constants = length f.constants;
  values = values_at w at f;
  parameters = length f.values;
  first = names_at w at f;
  names = length f.names;
}
