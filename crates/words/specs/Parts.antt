-- Parts of a run: the k items from a place on, and the run with other items there.
use Rattle.std.specs.Prelude.{ℕ, ◌+◌, List, ◌++◌, length, take, drop}

module _ {A : Type 0} where
  -- the k items of a run from its place a on
  abbrev pub region : ℕ → ℕ → List A → List A
  region a k ws = take k (drop a ws)

  -- the run with ys in the place of the k items from a on: what a part lent as `&mut ws[a..a + k]` comes back as
  abbrev pub put : ℕ → ℕ → List A → List A → List A
  put a k ys ws = take a ws ++ (ys ++ drop k (drop a ws))

  -- the run with ys over it, from its place a on
  abbrev pub over : ℕ → List A → List A → List A
  over a ys ws = take a ws ++ ys ++ drop (a + length ys) ws
