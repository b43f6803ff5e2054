-- A file as read: paper 01, "The file". "Fields are checked from the front; the first fault decides, its place being the first byte of the field."
use Rattle.std.specs.Prelude.{ℕ, zero, suc, Bool, true, false, List, [], ◌∷◌, ◌++◌, length, get_or, ltb, eqb}
use Rattle.words.specs.Choice.{pick, both, either}
use Rattle.faults.specs.declared.Fault.TheVariants.{NotSynthDef, BadVersion, BadIndex, TooLong, NameTwice, BytesLeft}
use Rattle.format.specs.Read.{Read, got, bad, and_then, checked, repeat}
use Rattle.format.specs.declared.Width.{Width}
use Rattle.format.specs.declared.Width.TheVariants.{Short, Long}
use Rattle.words.specs.Patterns.{minus_one}
use Rattle.format.specs.Fields.{word, int16, int32, float32, name, definition_name, integer_by, highest16, count_to_by, count_by, short_count_to, rate, index_below_by}
use Rattle.format.specs.Definition.{Input, constant, output, UnitSpec, ParameterName, Variant, Front, Definition}
use Rattle.format.specs.Writer.{file_type, first_version, file_version, write_definition}

-- "P at most 32"
abbrev pub most_parameters : ℕ
most_parameters = 32

-- "D .. at most 32"
abbrev pub most_definitions : ℕ
most_definitions = 32

-- "2,048 encoded bytes to a definition"
abbrev pub size_limit : ℕ
size_limit = 2048

-- "a parameter index from 0 to P-1"
abbrev pub parameter_name_by : Width → ℕ → List ℕ → ℕ → Read ParameterName
parameter_name_by w p s at = and_then (name s at) (λ n next. and_then (index_below_by w p s next) (λ i end. got (record { name = n; index = i }) end))

-- the definition's front
unfoldable pub front_by : Width → List ℕ → ℕ → Read Front
front_by w s at =
    and_then (definition_name s at) (λ n p1.
    and_then (count_by w s p1) (λ k p2.
    and_then (repeat (float32 s) k p2) (λ constants p3.
    and_then (count_to_by w most_parameters s p3) (λ p p4.
    and_then (repeat (float32 s) p p4) (λ values p5.
    and_then (count_by w s p5) (λ many p6.
    and_then (repeat (parameter_name_by w p s) many p6) (λ names end.
    got (record { name = n; constants = constants; values = values; names = names }) end)))))))

-- "a constant index from 0 to K-1; a unit index from 0 and below the unit's own place, its output index from 0 and below that unit's O":
-- outs holds the O of each unit before this one
abbrev pub input_by : Width → ℕ → List ℕ → List ℕ → ℕ → Read Input
input_by w k outs s at =
    and_then (integer_by w s at) (λ u next.
    pick (eqb u minus_one)
    (and_then (index_below_by w k s next) (λ i end. got (constant i) end))
    (pick (ltb u (length outs)) (and_then (index_below_by w (get_or outs u 0) s next) (λ o end. got (output u o) end)) (bad BadIndex at)))

-- "Unit: pstring class, int8 rate, int32 inputs I, int32 outputs O, int16 special index, I inputs, O output rates (int8)"
unfoldable pub unit_by : Width → ℕ → List ℕ → List ℕ → ℕ → Read UnitSpec
unit_by w k outs s at =
    and_then (name s at) (λ class p1.
    and_then (rate s p1) (λ r p2.
    and_then (count_by w s p2) (λ many p3.
    and_then (count_by w s p3) (λ out p4.
    and_then (int16 s p4) (λ special p5.
    and_then (repeat (input_by w k outs s) many p5) (λ inputs p6.
    and_then (repeat (rate s) out p6) (λ outputs end.
    got (record { class = class; rate = r; special = special; inputs = inputs; outputs = outputs }) end)))))))

-- so many units, behind those whose O are outs
unfoldable pub units_by : Width → ℕ → List ℕ → ℕ → List ℕ → ℕ → Read (List UnitSpec)
units_by w k s zero outs at = got [] at
units_by w k s (suc n) outs at =
    and_then (unit_by w k outs s at) (λ u next.
    and_then (units_by w k s n (outs ++ (length u.outputs ∷ [])) next) (λ us end. got (u ∷ us) end))

-- "V variants (pstring, P float32)"
abbrev pub variant : ℕ → List ℕ → ℕ → Read Variant
variant p s at = and_then (name s at) (λ n next. and_then (repeat (float32 s) p next) (λ values end. got (record { name = n; values = values }) end))

unfoldable pub definition_by : Width → List ℕ → ℕ → Read Definition
definition_by w s at =
    and_then (front_by w s at) (λ f p1.
    and_then (count_by w s p1) (λ many p2.
    and_then (units_by w (length f.constants) s many [] p2) (λ units p3.
    and_then (short_count_to highest16 s p3) (λ v p4.
    and_then (repeat (variant (length f.values) s) v p4) (λ variants end.
    got (record { front = f; units = units; variants = variants }) end)))))

-- version 2 is the reading at four bytes
abbrev pub parameter_name : ℕ → List ℕ → ℕ → Read ParameterName
parameter_name p s at = parameter_name_by Long p s at

abbrev pub read_front : List ℕ → ℕ → Read Front
read_front s at = front_by Long s at

abbrev pub read_definition : List ℕ → ℕ → Read Definition
read_definition s at = definition_by Long s at

-- two names are the same, byte for byte
unfoldable pub same_name : List ℕ → List ℕ → Bool
same_name [] [] = true
same_name [] (b ∷ bs) = false
same_name (a ∷ xs) [] = false
same_name (a ∷ xs) (b ∷ bs) = both (eqb a b) (same_name xs bs)

unfoldable pub among : List ℕ → List (List ℕ) → Bool
among n [] = false
among n (m ∷ ms) = either (same_name m n) (among n ms)

-- "The 2,048 limit (place: start of the definition), then a repeated name (place: the later name), are checked at the end of each definition": names
-- holds those of the definitions before this one. Paper 02, 4/14: "The 2,048 limit is measured on the version 2 encoding."
abbrev pub fits : List (List ℕ) → ℕ → Definition → ℕ → Read Definition
fits names at d next =
    pick (ltb size_limit (length (write_definition d))) (bad TooLong at)
    (pick (among d.front.name names) (bad NameTwice at) (got d next))

unfoldable pub read_definitions : Width → List ℕ → ℕ → List (List ℕ) → ℕ → Read (List Definition)
read_definitions w s zero names at = got [] at
read_definitions w s (suc n) names at =
    and_then (and_then (definition_by w s at) (λ d next. fits names at d next)) (λ d next.
    and_then (read_definitions w s n (names ++ (d.front.name ∷ [])) next) (λ ds end. got (d ∷ ds) end))

-- "Refusal 4 is now for versions other than 1 and 2."
abbrev pub is_version : ℕ → Bool
is_version v = either (eqb v first_version) (eqb v file_version)

abbrev pub width_of : ℕ → Width
width_of v = pick (eqb v first_version) Short Long

-- what a file's head says: the width of its fields, by its version, and D
pub record Header : Type 0 where
  pub width : Width
  pub count : ℕ

-- the version of a file, and the width of its fields
abbrev pub version_in : List ℕ → ℕ
version_in s = word s 4

abbrev pub file_width : List ℕ → Width
file_width s = width_of (version_in s)

abbrev pub read_header : List ℕ → Read Header
read_header s =
    and_then (checked NotSynthDef (λ t. eqb t file_type) 0 (int32 s 0)) (λ t p1.
    and_then (checked BadVersion is_version p1 (int32 s p1)) (λ v p2.
    and_then (short_count_to most_definitions s p2) (λ n p3.
    got (record { width = width_of v; count = n }) p3)))

-- "then bytes after the end (place: the first of them)"
unfoldable pub read_file : List ℕ → Read (List Definition)
read_file s =
    and_then (read_header s) (λ h p1.
    and_then (read_definitions h.width s h.count [] p1) (λ ds end.
    pick (ltb end (length s)) (bad BytesLeft end) (got ds end)))
