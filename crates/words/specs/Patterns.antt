-- Signed numbers as patterns of 32 bits.
use Rattle.std.specs.Prelude.{ℕ}

-- -1
abbrev pub minus_one : ℕ
minus_one = 4294967295
