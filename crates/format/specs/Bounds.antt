-- A definition within the paper's bounds: paper 01, "The file", "Bounds".
use Rattle.std.specs.Prelude.{ℕ, Bool, true, List, [], ◌∷◌, ◌++◌, length, get_or, ltb, leb, eqb, not}
use Rattle.words.specs.Choice.{both}
use Rattle.format.specs.Definition.{Input, constant, output, UnitSpec, ParameterName, Variant, Front, Definition}
use Rattle.format.specs.declared.Width.{Width}
use Rattle.format.specs.declared.Width.TheVariants.{Long}
use Rattle.format.specs.Fields.{name_bytes, highest16, highest_of, highest_rate}
use Rattle.format.specs.Reader.{most_parameters, most_definitions, size_limit, among}
use Rattle.format.specs.Writer.{write_definition}

unfoldable pub every : {A : Type 0} → (A → Bool) → List A → Bool
every test [] = true
every test (x ∷ xs) = both (test x) (every test xs)

-- "0 to 255 bytes, each from 1 to 127"
abbrev pub is_name : List ℕ → Bool
is_name n = both (leb (length n) 255) (name_bytes n)

-- "Floats may be any 32 bits"
abbrev pub is_float : ℕ → Bool
is_float x = ltb x 4294967296

abbrev pub is_rate : ℕ → Bool
is_rate r = leb r highest_rate

-- "a parameter index from 0 to P-1"
abbrev pub is_parameter_name : ℕ → ParameterName → Bool
is_parameter_name p n = both (is_name n.name) (ltb n.index p)

-- "a constant index from 0 to K-1; a unit index from 0 and below the unit's own place, its output index from 0 and below that unit's O"
abbrev pub is_input : ℕ → List ℕ → Input → Bool
is_input k outs (constant i) = ltb i k
is_input k outs (output u o) = both (ltb u (length outs)) (ltb o (get_or outs u 0))

-- "every count at least 0": it fits its field, of a width, as a number that is not negative
abbrev pub is_unit : Width → ℕ → List ℕ → UnitSpec → Bool
is_unit w k outs u =
    both (is_name u.class)
    (both (is_rate u.rate)
    (both (ltb u.special 65536)
    (both (leb (length u.inputs) (highest_of w))
    (both (leb (length u.outputs) (highest_of w))
    (both (every (is_input k outs) u.inputs) (every is_rate u.outputs))))))

unfoldable pub are_units : Width → ℕ → List ℕ → List UnitSpec → Bool
are_units w k outs [] = true
are_units w k outs (u ∷ us) = both (is_unit w k outs u) (are_units w k (outs ++ (length u.outputs ∷ [])) us)

-- "V variants (pstring, P float32)"
abbrev pub is_variant : ℕ → Variant → Bool
is_variant p v = both (is_name v.name) (both (eqb (length v.values) p) (every is_float v.values))

-- "a definition name isn't empty (H)"; "P at most 32"
abbrev pub is_front : Width → Front → Bool
is_front w f =
    both (both (ltb 0 (length f.name)) (is_name f.name))
    (both (leb (length f.constants) (highest_of w))
    (both (every is_float f.constants)
    (both (leb (length f.values) most_parameters)
    (both (every is_float f.values)
    (both (leb (length f.names) (highest_of w)) (every (is_parameter_name (length f.values)) f.names))))))

unfoldable pub is_definition_by : Width → Definition → Bool
is_definition_by w d =
    both (is_front w d.front)
    (both (leb (length d.units) (highest_of w))
    (both (are_units w (length d.front.constants) [] d.units)
    (both (leb (length d.variants) highest16) (every (is_variant (length d.front.values)) d.variants))))

-- what every definition keeps that is read: it can be written in version 2
abbrev pub is_definition : Definition → Bool
is_definition d = is_definition_by Long d

-- "2,048 encoded bytes to a definition"; "Definition names must differ within one file (H)": names holds those before
unfoldable pub are_definitions : List (List ℕ) → List Definition → Bool
are_definitions names [] = true
are_definitions names (d ∷ ds) =
    both (is_definition d)
    (both (leb (length (write_definition d)) size_limit)
    (both (not (among d.front.name names)) (are_definitions (names ++ (d.front.name ∷ [])) ds)))

-- "D .. at most 32"
abbrev pub is_file : List Definition → Bool
is_file ds = both (leb (length ds) most_definitions) (are_definitions [] ds)
