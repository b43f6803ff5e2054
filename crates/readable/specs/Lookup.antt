-- Lookups in one encoded definition, which starts at the first byte. They read its front, and answer none where that can't be read.
use Rattle.std.specs.Prelude as prelude
use Rattle.std.specs.Prelude.{ℕ, List, [], length, Some, None}
use Rattle.std.proofs.Math.Option.{Option, none, some}
use Rattle.readable.specs.declared.cover.Cover.{Cover}
use Rattle.format.specs.declared.Width.TheVariants.{Long}
use Rattle.format.specs.Read.{on_read}
use Rattle.format.specs.Fields.{count}
use Rattle.format.specs.Reader.{read_front}
use Rattle.format.specs.Names.{Covered, covered_by, first_name, name_for}
use Rattle.front.specs.Front.{values_at}

-- a number that was found, or none
abbrev pub found_at : prelude.Option ℕ → Option ℕ
found_at (Some n) = some n
found_at None = none

-- the definition's name, and no bytes where there is none
abbrev pub name_in : List ℕ → List ℕ
name_in s = on_read (read_front s 0) [] (λ f next. f.name)

-- P
abbrev pub parameters_in : List ℕ → prelude.Option ℕ
parameters_in s = on_read (read_front s 0) None (λ f next. Some (length f.values))

-- U, which stands behind the front
abbrev pub units_in : List ℕ → prelude.Option ℕ
units_in s = on_read (read_front s 0) None (λ f next. on_read (count s next) None (λ n end. Some n))

-- where the initial values start, and how many there are
abbrev pub values_in : List ℕ → prelude.Option (ℕ × ℕ)
values_in s = on_read (read_front s 0) None (λ f next. Some (values_at Long 0 f, length f.values))

-- what a name was found to cover, or nothing
abbrev pub cover_at : prelude.Option Cover → Option Covered
cover_at (Some c) = some (record { index = c.index; width = c.width })
cover_at None = none

-- what a name covers
abbrev pub cover_in : List ℕ → List ℕ → Option Covered
cover_in n s = on_read (read_front s 0) none (λ f next. covered_by n (length f.values) f.names)

-- the first name of an index
abbrev pub name_of_in : ℕ → List ℕ → Option (List ℕ)
name_of_in i s = on_read (read_front s 0) none (λ f next. first_name i f.names)

-- its first name that looks up to it
abbrev pub name_for_in : ℕ → List ℕ → Option (List ℕ)
name_for_in i s = on_read (read_front s 0) none (λ f next. name_for i f.names)
