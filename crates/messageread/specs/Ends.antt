-- Where a string ends: the place of its first zero; none where none of its readings holds.
use Rattle.std.specs.Prelude.{ℕ, ◌-◌, ◌≤◌, ◌<◌, true, ◌≡◌, List, length, drop, Option, Some, None}
use Rattle.words.specs.Parts.{region}
use Rattle.format.specs.Fields.{name_bytes}
use Rattle.messages.specs.Form.{text_length, string_at, faulty}

-- the first zero from a place on stands at r, and the bytes before it are bytes of a string
pub record Ended (s : List ℕ) (at r : ℕ) : Type 0 where
  pub behind : at ≤ r
  pub within : r < length s
  pub size : text_length (drop at s) ≡ r - at
  pub good : name_bytes (region at (r - at) s) ≡ true

abbrev pub Ends : List ℕ → ℕ → Option ℕ → Type 0
Ends s at (Some r) = Ended s at r
Ends s at None = faulty ≡ string_at s at
