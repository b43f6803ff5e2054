-- A synth definition as it is read: paper 01, "The file". Names are lists of bytes, floats are patterns.
use Rattle.std.specs.Prelude.{ℕ, List}

-- "Input: int32 unit, or -1 for a constant; then int32 output or constant index"
pub data Input : Type 0 where
  constant : ℕ → Input
  output : ℕ → ℕ → Input

-- "Unit: pstring class, int8 rate, .. int16 special index, I inputs, O output rates (int8)"
pub record UnitSpec : Type 0 where
  pub class : List ℕ
  pub rate : ℕ
  pub special : ℕ
  pub inputs : List Input
  pub outputs : List ℕ

-- "N parameter names (pstring, int32 index)"
pub record ParameterName : Type 0 where
  pub name : List ℕ
  pub index : ℕ

-- "V variants (pstring, P float32)"
pub record Variant : Type 0 where
  pub name : List ℕ
  pub values : List ℕ

-- "Definition: pstring name; .. K float32 constants; .. P float32 initial values; .. N parameter names": its front, which lookups read
pub record Front : Type 0 where
  pub name : List ℕ
  pub constants : List ℕ
  pub values : List ℕ
  pub names : List ParameterName

-- ".. U units; .. V variants"
pub record Definition : Type 0 where
  pub front : Front
  pub units : List UnitSpec
  pub variants : List Variant
