-- What a definition's parameter names mean.
use Rattle.std.specs.Prelude.{ℕ, ◌-◌, Bool, false, List, [], ◌∷◌, ltb, eqb}
use Rattle.std.proofs.Math.Option.{Option, none, some}
use Rattle.words.specs.Choice.{pick, both}
use Rattle.format.specs.Definition.{ParameterName}
use Rattle.format.specs.Reader.{same_name}

-- "A name means its first entry in that synth's own definition."
unfoldable pub first_index : List ℕ → List ParameterName → Option ℕ
first_index name [] = none
first_index name (p ∷ more) = pick (same_name p.name name) (some p.index) (first_index name more)

-- paper 02, 6/14: "Looking up a control name should answer its index and its width"
pub record Covered : Type 0 where
  pub index : ℕ
  pub width : ℕ

-- "up to the next larger index that has a name, else up to P": the lowest of `end` and the entries' indices that are larger than i, wherever they
-- stand
unfoldable pub next_index : ℕ → ℕ → List ParameterName → ℕ
next_index i end [] = end
next_index i end (q ∷ more) = next_index i (pick (both (ltb i q.index) (ltb q.index end)) q.index end) more

abbrev pub cover_from : Option ℕ → ℕ → List ParameterName → Option Covered
cover_from none p names = none
cover_from (some i) p names = some (record { index = i; width = next_index i p names - i })

-- what a name covers among P controls
abbrev pub covered_by : List ℕ → ℕ → List ParameterName → Option Covered
covered_by name p names = cover_from (first_index name names) p names

-- the first name of an index
unfoldable pub first_name : ℕ → List ParameterName → Option (List ℕ)
first_name i [] = none
first_name i (p ∷ more) = pick (eqb p.index i) (some p.name) (first_name i more)

-- paper 02, 8/14: "the control's first name that looks up to it, if any": the first, in the definition's order, of the names entered for a control that
-- look up to it among all names
abbrev pub looks_up_to : Option ℕ → ℕ → Bool
looks_up_to none i = false
looks_up_to (some k) i = eqb k i

unfoldable pub name_among : ℕ → List ParameterName → List ParameterName → Option (List ℕ)
name_among i all [] = none
name_among i all (p ∷ more) = pick (both (eqb p.index i) (looks_up_to (first_index p.name all) i)) (some p.name) (name_among i all more)

abbrev pub name_for : ℕ → List ParameterName → Option (List ℕ)
name_for i names = name_among i names names
