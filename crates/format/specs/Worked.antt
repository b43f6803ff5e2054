-- The paper's examples on files, by computation.
use Rattle.std.specs.Prelude.{◌≡◌, refl, ℕ, List, [], ◌∷◌, ◌++◌, length}
use Rattle.std.proofs.Math.Option.{Option, none, some}
use Rattle.words.specs.Bytes.{bytes16, bytes32}
use Rattle.faults.specs.declared.Fault.TheVariants.{BadVersion}
use Rattle.format.specs.Read.{got, bad, repeat}
use Rattle.words.specs.Patterns.{minus_one}
use Rattle.format.specs.Fields.{name_bytes}
use Rattle.format.specs.Definition.{ParameterName, Definition}
use Rattle.format.specs.Names.{Covered, first_index, next_index, covered_by}
use Rattle.format.specs.declared.Width.TheVariants.{Short}
use Rattle.format.specs.Fields.{integer_by}
use Rattle.format.specs.Reader.{front_by, units_by, definition_by, read_definitions, read_file, same_name, among}
use Rattle.format.specs.Writer.{write_all, write_definition_by, write_file, file_type, first_version}

-- "ping" with one parameter "freq"
abbrev pub ping : Definition
ping = record {
  front = record {
    name = 112 ∷ (105 ∷ (110 ∷ (103 ∷ [])));
    constants = [];
    values = 1138491392 ∷ [];
    names = record { name = 102 ∷ (114 ∷ (101 ∷ (113 ∷ []))); index = 0 } ∷ [];
  };
  units = [];
  variants = [];
}

ping-length : length (write_file (ping ∷ [])) ≡ 46
unfolding write_all write_definition_by write_file
ping-length = refl

ping_read : read_file (write_file (ping ∷ [])) ≡ got (ping ∷ []) 46
unfolding write_all write_definition_by write_file repeat name_bytes front_by units_by definition_by read_definitions read_file among
ping_read = refl

none_read : read_file (write_file []) ≡ got [] 10
unfolding write_all write_definition_by write_file repeat name_bytes front_by units_by definition_by read_definitions read_file among
none_read = refl

-- the same definition in version 1: each of its five counts and indices takes two bytes less
abbrev narrow : List ℕ
narrow = bytes32 file_type ++ (bytes32 first_version ++ (bytes16 1 ++ write_definition_by Short ping))

narrow-length : length narrow ≡ 36
unfolding write_all write_definition_by
narrow-length = refl

narrow_read : read_file narrow ≡ got (ping ∷ []) 36
unfolding write_all write_definition_by repeat name_bytes front_by units_by definition_by read_definitions read_file among
narrow_read = refl

-- "-1 staying -1"
minus-one : integer_by Short (255 ∷ (255 ∷ [])) 0 ≡ got minus_one 2
minus-one = refl

highest : integer_by Short (127 ∷ (255 ∷ [])) 0 ≡ got 32767 2
highest = refl

-- "Refusal 4 is now for versions other than 1 and 2."
other_version : read_file (bytes32 file_type ++ (bytes32 3 ++ bytes16 0)) ≡ bad BadVersion 4
unfolding read_definitions read_file
other_version = refl

none_narrow : read_file (bytes32 file_type ++ (bytes32 first_version ++ bytes16 0)) ≡ got [] 10
unfolding read_definitions read_file
none_narrow = refl

-- paper 02, 6/14: "Looking up a control name should answer its index and its width: up to the next larger index that has a name, else up to P":
-- what the names a, b and c cover among P controls
abbrev a : ℕ → ParameterName
a i = record { name = 97 ∷ []; index = i }

abbrev b : ℕ → ParameterName
b i = record { name = 98 ∷ []; index = i }

abbrev c : ℕ → ParameterName
c i = record { name = 99 ∷ []; index = i }

abbrev covers : ℕ → List ParameterName → List (Option Covered)
covers p names = covered_by (97 ∷ []) p names ∷ (covered_by (98 ∷ []) p names ∷ (covered_by (99 ∷ []) p names ∷ []))

abbrev at : ℕ → ℕ → Option Covered
at i w = some (record { index = i; width = w })

-- names out of order: the next index counts, not the next entry
out_of_order : covers 8 (c 6 ∷ (a 0 ∷ (b 2 ∷ []))) ≡ at 0 2 ∷ (at 2 4 ∷ (at 6 2 ∷ []))
unfolding first_index next_index same_name
out_of_order = refl

-- a name that stands twice means its first entry, and its second ends a width too
repeated : covers 8 (a 1 ∷ (b 6 ∷ (a 4 ∷ []))) ≡ at 1 3 ∷ (at 6 2 ∷ (none ∷ []))
unfolding first_index next_index same_name
repeated = refl

-- two names of one index have one width
together : covers 8 (b 1 ∷ (c 3 ∷ (a 1 ∷ []))) ≡ at 1 2 ∷ (at 1 2 ∷ (at 3 5 ∷ []))
unfolding first_index next_index same_name
together = refl

-- a gap is covered by the name before it, and controls before the first name by none
gap : covers 8 (b 7 ∷ (a 2 ∷ [])) ≡ at 2 5 ∷ (at 7 1 ∷ (none ∷ []))
unfolding first_index next_index same_name
gap = refl

-- no names
nameless : covers 8 [] ≡ none ∷ (none ∷ (none ∷ []))
unfolding first_index
nameless = refl
