-- Paper 01's example of a control, and values, run through the definitions.
use Rattle.std.specs.Prelude.{ℕ, ◌≡◌, refl, List, [], ◌∷◌, map, Some, None}
use Rattle.std.specs.Float.Ieee.{of_int, to_bits}
use Rattle.values.specs.Controls.{ControlValue, set_to, map_to, shown_by}
use Rattle.values.specs.Targets.{target_of}
use Rattle.values.specs.Values.{in_bounds, pattern, pattern_of}
use Rattle.values.specs.declared.Mapping.TheVariants.{Unmapped, Bus}
use Rattle.values.specs.declared.Target.TheVariants.{Latest, Number, Reserved}
use Rattle.values.specs.declared.Value.TheVariants.{Float, Integer}

-- bus 7 at 2.0
abbrev pub buses : List ℕ
buses = 0 ∷ 0 ∷ 0 ∷ 0 ∷ 0 ∷ 0 ∷ 0 ∷ 0x4000_0000 ∷ []

-- "own 440.0, mapped to bus 7 at 2.0, reads 2.0; mapped to -1, reads 440.0"
abbrev pub mapped : ControlValue
mapped = map_to (Bus 7) (record { own = 0x43DC_0000; mapping = Unmapped })

pub reads_bus : shown_by buses mapped ≡ 0x4000_0000
reads_bus = refl

pub reads_own : shown_by buses (map_to Unmapped mapped) ≡ 0x43DC_0000
reads_own = refl

-- setting unmaps: 1.0
pub set_unmaps : shown_by buses (set_to 0x3F80_0000 mapped) ≡ 0x3F80_0000
set_unmaps = refl

-- -1, 0, 1, 2147483647, -2, -2147483648
pub targets : map target_of (0xFFFF_FFFF ∷ 0 ∷ 1 ∷ 0x7FFF_FFFF ∷ 0xFFFF_FFFE ∷ 0x8000_0000 ∷ []) ≡ Latest ∷ Number 0 ∷ Number 1 ∷ Number 2147483647 ∷ Reserved ∷ Reserved ∷ []
unfolding target_of
targets = refl

-- 0, 1, -1, 440
pub integers : map pattern_of (Integer 0 ∷ Integer 1 ∷ Integer 0xFFFF_FFFF ∷ Integer 440 ∷ [])
    ≡ Some 0 ∷ Some 0x3F80_0000 ∷ Some 0xBF80_0000 ∷ Some 0x43DC_0000 ∷ []
unfolding of_int to_bits in_bounds pattern pattern_of
integers = refl

-- the bounds and past them: 16777216, -16777216, 16777217, -16777217
pub bounds : map pattern_of (Integer 16777216 ∷ Integer 0xFF00_0000 ∷ Integer 16777217 ∷ Integer 0xFEFF_FFFF ∷ [])
    ≡ Some 0x4B80_0000 ∷ Some 0xCB80_0000 ∷ None ∷ None ∷ []
unfolding of_int to_bits in_bounds pattern pattern_of
bounds = refl

-- a float stays, a NaN too
pub floats : map pattern_of (Float 0x8000_0000 ∷ Float 0x7FC0_0001 ∷ Float 0xFFFF_FFFF ∷ []) ≡ Some 0x8000_0000 ∷ Some 0x7FC0_0001 ∷ Some 0xFFFF_FFFF ∷ []
unfolding in_bounds pattern pattern_of
floats = refl
