-- Bytes, and numbers as bytes, the highest first.
use Rattle.std.specs.Prelude.{ℕ, ◌<◌, ◌/◌, ◌%◌, List, [], ◌∷◌, get_or}

-- a list of bytes
abbrev pub AreBytes : List ℕ → Type 0
AreBytes s = (i : ℕ) → get_or s i 0 < 256

abbrev pub bytes8 : ℕ → List ℕ
bytes8 n = n ∷ []

abbrev pub bytes16 : ℕ → List ℕ
bytes16 n = n / 256 % 256 ∷ (n % 256 ∷ [])

abbrev pub bytes32 : ℕ → List ℕ
bytes32 n = n / 16777216 % 256 ∷ (n / 65536 % 256 ∷ (n / 256 % 256 ∷ (n % 256 ∷ [])))
