-- The writing of a definition, by the width of its fields, and of a file, which is always of version 2.
use Rattle.std.specs.Prelude.{ℕ, List, [], ◌∷◌, ◌++◌, length}
use Rattle.words.specs.Bytes.{bytes8, bytes16, bytes32}
use Rattle.format.specs.declared.Width.{Width}
use Rattle.format.specs.declared.Width.TheVariants.{Short, Long}
use Rattle.words.specs.Patterns.{minus_one}
use Rattle.format.specs.Definition.{Input, constant, output, UnitSpec, ParameterName, Variant, Front, Definition}

-- ""SCgf", int32 version 2, int16 count D": the bytes of "SCgf" as one number; paper 02, 4/14: "The archive holds version 1 files"
abbrev pub file_type : ℕ
file_type = 1396926310

abbrev pub first_version : ℕ
first_version = 1

abbrev pub file_version : ℕ
file_version = 2

-- the version whose fields are so wide
abbrev pub version_of : Width → ℕ
version_of Short = first_version
version_of Long = file_version

-- the field of a count or an index: the lowest two bytes of its pattern, or all four
abbrev pub write_integer : Width → ℕ → List ℕ
write_integer Short n = bytes16 n
write_integer Long n = bytes32 n

abbrev pub write_name : List ℕ → List ℕ
write_name n = length n ∷ n

module _ {A : Type 0} where
  -- one after the other
  unfoldable pub write_all : (A → List ℕ) → List A → List ℕ
  write_all write [] = []
  write_all write (x ∷ xs) = write x ++ write_all write xs

abbrev pub write_parameter_name : Width → ParameterName → List ℕ
write_parameter_name w p = write_name p.name ++ write_integer w p.index

abbrev pub write_input : Width → Input → List ℕ
write_input w (constant k) = write_integer w minus_one ++ write_integer w k
write_input w (output u o) = write_integer w u ++ write_integer w o

abbrev pub write_unit : Width → UnitSpec → List ℕ
write_unit w u =
    write_name u.class ++ (bytes8 u.rate
    ++ (write_integer w (length u.inputs)
    ++ (write_integer w (length u.outputs)
    ++ (bytes16 u.special ++ (write_all (write_input w) u.inputs ++ write_all bytes8 u.outputs)))))

abbrev pub write_variant : Variant → List ℕ
write_variant v = write_name v.name ++ write_all bytes32 v.values

abbrev pub write_front : Width → Front → List ℕ
write_front w f =
    write_name f.name
    ++ (write_integer w (length f.constants)
    ++ (write_all bytes32 f.constants
    ++ (write_integer w (length f.values)
    ++ (write_all bytes32 f.values
    ++ (write_integer w (length f.names) ++ write_all (write_parameter_name w) f.names)))))

unfoldable pub write_definition_by : Width → Definition → List ℕ
write_definition_by w d =
    write_front w d.front
    ++ (write_integer w (length d.units)
    ++ (write_all (write_unit w) d.units
    ++ (bytes16 (length d.variants) ++ write_all write_variant d.variants)))

-- "Demand 2's export always writes version 2": the encoding of a definition
abbrev pub write_definition : Definition → List ℕ
write_definition d = write_definition_by Long d

-- a file's head, and a file, by the width of its fields
abbrev pub write_header : Width → ℕ → List ℕ
write_header w n = bytes32 file_type ++ (bytes32 (version_of w) ++ bytes16 n)

abbrev pub write_file_by : Width → List Definition → List ℕ
write_file_by w ds = write_header w (length ds) ++ write_all (write_definition_by w) ds

unfoldable pub write_file : List Definition → List ℕ
write_file ds = bytes32 file_type ++ (bytes32 file_version ++ (bytes16 (length ds) ++ write_all write_definition ds))
