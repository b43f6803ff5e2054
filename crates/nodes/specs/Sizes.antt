-- What the functions on a table in words ask of the words.
use Rattle.std.specs.Prelude.{ℕ, ◌+◌, ◌*◌, ◌≤◌, List, length, drop, get_or}
use Rattle.nodes.specs.Table.{width, rows}
use Rattle.nodes.specs.Place.{deeper}

-- the words hold so many records, at most 256
pub record TableFits (us : List ℕ) (count : ℕ) : Type 0 where
  pub room : width * count ≤ length us
  pub few : count ≤ 256

-- the depth of the record at a place, and the end of its run
abbrev pub depth_at : List ℕ → ℕ → ℕ
depth_at us at = get_or us (width * at + 1) 0

abbrev pub end_at : ℕ → List ℕ → ℕ → ℕ
end_at count us at = at + 1 + deeper (depth_at us at) (drop (at + 1) (rows count us))
