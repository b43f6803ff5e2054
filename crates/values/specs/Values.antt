-- A value in a command: paper 01, "Controls and buses".
use Rattle.std.specs.Prelude.{ℕ, Bool, true, ℤ, pos, neg_ℤ, Option, Some, None}
use Rattle.std.specs.Int.Signed.{le_z}
use Rattle.std.specs.Float.{binary32}
use Rattle.std.specs.Float.Ieee.{of_int, to_bits}
use Rattle.words.specs.Choice.{pick, both}
use Rattle.values.specs.Targets.{signed}
use Rattle.values.specs.declared.Value.{Value}
use Rattle.values.specs.declared.Value.TheVariants.{Float, Integer}

-- "An integer value from -16,777,216 to 16,777,216"
abbrev pub bounded : ℤ → Bool
bounded z = both (le_z (neg_ℤ (pos 16777216)) z) (le_z z (pos 16777216))

-- ".. becomes the equal float, 0 the one with all bits zero (H)."
abbrev pub equal_float : ℤ → ℕ
equal_float z = to_bits binary32 (of_int binary32 z)

unfoldable pub in_bounds : Value → Bool
in_bounds (Float p) = true
in_bounds (Integer p) = bounded (signed p)

unfoldable pub pattern : Value → ℕ
pattern (Float p) = p
pattern (Integer p) = equal_float (signed p)

-- out of bounds is refusal 23
unfoldable pub pattern_of : Value → Option ℕ
pattern_of v = pick (in_bounds v) (Some (pattern v)) None
