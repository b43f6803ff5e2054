-- The pieces of a definition of version 1: what each becomes in version 2, from its bytes alone, and where it ends.
use Rattle.std.specs.Prelude.{ℕ, ◌+◌, ◌*◌, ◌-◌, List, ◌++◌, get_or}
use Rattle.std.proofs.Common.{arith}
use Rattle.words.specs.Bytes.{bytes32}
use Rattle.words.specs.Parts.{region}
use Rattle.format.specs.declared.Width.TheVariants.{Short}
use Rattle.format.specs.Fields.{value_by}
use Rattle.widening.specs.Walk.{wide_all, past_all, Onward, past_up}

-- a count or an index: the same number in four bytes
abbrev pub integer_wide : List ℕ → ℕ → List ℕ
integer_wide s at = bytes32 (value_by Short s at)

-- a name: its length and its bytes, as they are
abbrev pub text_past : List ℕ → ℕ → ℕ
text_past s at = at + (1 + get_or s at 0)

abbrev pub text_wide : List ℕ → ℕ → List ℕ
text_wide s at = region at (1 + get_or s at 0) s

-- a count, and as many floats
unfoldable pub floats_past : List ℕ → ℕ → ℕ
floats_past s at = at + 2 + 4 * value_by Short s at

unfoldable pub floats_wide : List ℕ → ℕ → List ℕ
floats_wide s at = integer_wide s at ++ region (at + 2) (4 * value_by Short s at) s

-- a parameter name
abbrev pub name_past : List ℕ → ℕ → ℕ
name_past s at = text_past s at + 2

abbrev pub name_wide : List ℕ → ℕ → List ℕ
name_wide s at = text_wide s at ++ integer_wide s (text_past s at)

-- a count, and as many parameter names
abbrev pub names_past : List ℕ → ℕ → ℕ
names_past s at = past_all (name_past s) (value_by Short s at) (at + 2)

abbrev pub names_wide : List ℕ → ℕ → List ℕ
names_wide s at = integer_wide s at ++ wide_all (name_wide s) (name_past s) (value_by Short s at) (at + 2)

-- a front
unfoldable pub front_past : List ℕ → ℕ → ℕ
front_past s at = names_past s (floats_past s (floats_past s (text_past s at)))

unfoldable pub front_wide : List ℕ → ℕ → List ℕ
front_wide s at =
    text_wide s at
    ++ (floats_wide s (text_past s at)
    ++ (floats_wide s (floats_past s (text_past s at)) ++ names_wide s (floats_past s (floats_past s (text_past s at)))))

-- an input
abbrev pub input_past : ℕ → ℕ
input_past at = at + 2 + 2

abbrev pub input_wide : List ℕ → ℕ → List ℕ
input_wide s at = integer_wide s at ++ integer_wide s (at + 2)

-- the rest of a unit of so many inputs and outputs: its special index, its inputs, its output rates
unfoldable pub body_past : ℕ → ℕ → ℕ → ℕ
body_past inputs outputs at = past_all input_past inputs (at + 2) + outputs

unfoldable pub body_wide : List ℕ → ℕ → ℕ → ℕ → List ℕ
body_wide s inputs outputs at =
    region at 2 s
    ++ (wide_all (input_wide s) input_past inputs (at + 2) ++ region (past_all input_past inputs (at + 2)) outputs s)

-- a unit: its class and rate; I, O; the rest
abbrev pub counts_at : List ℕ → ℕ → ℕ
counts_at s at = at + (2 + get_or s at 0)

abbrev pub inputs_at : List ℕ → ℕ → ℕ
inputs_at s at = value_by Short s (counts_at s at)

abbrev pub outputs_at : List ℕ → ℕ → ℕ
outputs_at s at = value_by Short s (counts_at s at + 2)

unfoldable pub unit_past : List ℕ → ℕ → ℕ
unit_past s at = body_past (inputs_at s at) (outputs_at s at) (counts_at s at + 2 + 2)

unfoldable pub unit_wide : List ℕ → ℕ → List ℕ
unit_wide s at =
    region at (2 + get_or s at 0) s
    ++ (integer_wide s (counts_at s at)
    ++ (integer_wide s (counts_at s at + 2)
    ++ body_wide s (inputs_at s at) (outputs_at s at) (counts_at s at + 2 + 2)))

-- a definition that ends at a place: its front; U, and as many units; its variants
abbrev pub units_past : List ℕ → ℕ → ℕ
units_past s at = past_all (unit_past s) (value_by Short s at) (at + 2)

abbrev pub rest_wide : List ℕ → ℕ → ℕ → List ℕ
rest_wide s end at =
    integer_wide s at
    ++ (wide_all (unit_wide s) (unit_past s) (value_by Short s at) (at + 2) ++ region (units_past s at) (end - units_past s at) s)

unfoldable pub definition_wide : List ℕ → ℕ → ℕ → List ℕ
definition_wide s end at = front_wide s at ++ rest_wide s end (front_past s at)

-- the places of a walk never go back
pub input_onward : Onward input_past
input_onward at = omega arith

pub body_onward : (inputs outputs : ℕ) → Onward (body_past inputs outputs)
unfolding body_past
body_onward inputs outputs at = omega (arith, past_up input_past input_onward inputs (at + 2))

pub unit_onward : (s : List ℕ) → Onward (unit_past s)
unfolding unit_past
unit_onward s at = omega (arith, body_onward (inputs_at s at) (outputs_at s at) (counts_at s at + 2 + 2))

pub name_onward : (s : List ℕ) → Onward (name_past s)
name_onward s at = omega arith

pub names_onward : (s : List ℕ) → Onward (names_past s)
names_onward s at = omega (arith, past_up (name_past s) (name_onward s) (value_by Short s at) (at + 2))

pub floats_onward : (s : List ℕ) → Onward (floats_past s)
unfolding floats_past
floats_onward s at = omega arith
