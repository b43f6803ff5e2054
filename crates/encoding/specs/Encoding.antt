-- How long the encoding of a definition is that stands in a file of either version.
use Rattle.std.specs.Prelude.{ℕ, ◌+◌, ◌*◌, ◌≡◌, List, [], ◌∷◌, length}
use Rattle.words.specs.Bytes.{AreBytes}
use Rattle.format.specs.declared.Width.{Width}
use Rattle.format.specs.Read.{got}
use Rattle.format.specs.Definition.{UnitSpec, Definition}
use Rattle.format.specs.Reader.{definition_by}

module _ {A : Type 0} where
  unfoldable pub total : (A → ℕ) → List A → ℕ
  total count [] = 0
  total count (x ∷ xs) = count x + total count xs

-- Paper 02, 4/14: "int16 for K, P, N, U, the parameter index, I, O and both input indices": how many such fields a unit has, and a definition
abbrev pub unit_fields : UnitSpec → ℕ
unit_fields u = 2 + 2 * length u.inputs

abbrev pub fields_in : Definition → ℕ
fields_in d = 4 + length d.front.names + total unit_fields d.units

-- a definition is read from one place to another, and has so many such fields
pub record Measured (w : Width) (s : List ℕ) (at end fields : ℕ) : Type 0 where
  pub bytes : AreBytes s
  pub definition : Definition
  pub read : definition_by w s at ≡ got definition end
  pub counted : fields ≡ fields_in definition
