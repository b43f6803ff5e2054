-- Versions of a store from a place on: how many there are, and the one of a number.
use Rattle.std.specs.Prelude.{Option, Some, None, ℕ, ◌+◌, ◌≡◌, List, [], ◌∷◌, ◌++◌, length}
use Rattle.std.proofs.Math.Option.{none}
use Rattle.format.specs.Fields.{word}
use Rattle.tagged.specs.Fields.{head_size, write_fields}
use Rattle.store.specs.Store.{Version}
use Rattle.store.specs.Writing.{version_fields, version_numbered}
use Rattle.store.specs.Ahead.{VersionsAhead}

abbrev pub Counted : List ℕ → ℕ → ℕ → Type 0
Counted s at r = (p : VersionsAhead s at) → r ≡ length p.versions

-- a version at a place: its number there, and the versions behind it
pub record VersionAhead (s : List ℕ) (at : ℕ) (vs : List Version) (next : ℕ) : Type 0 where
  pub version : Version
  pub more : List Version
  pub versions : vs ≡ version ∷ more
  pub number : word s (at + head_size) ≡ version.number
  pub place : next ≡ at + length (write_fields (version_fields (version ∷ [])))
  pub rest : VersionsAhead s next
  pub later : rest.versions ≡ more

-- a step over a version
abbrev pub PastVersion : List ℕ → ℕ → ℕ → Type 0
PastVersion s at r = (p : VersionsAhead s at) → VersionAhead s at p.versions r

-- the version of a number among those from a place on: where it starts and ends
pub record NumberedAt (at number : ℕ) (vs : List Version) (from to : ℕ) : Type 0 where
  pub before : List Version
  pub version : Version
  pub after : List Version
  pub split : vs ≡ before ++ (version ∷ after)
  pub apart : version_numbered number before ≡ none
  pub same : version.number ≡ number
  pub start : from ≡ at + length (write_fields (version_fields before))
  pub end : to ≡ from + length (write_fields (version_fields (version ∷ [])))

abbrev pub NumberedBy : Option (ℕ × ℕ) → ℕ → ℕ → List Version → Type 0
NumberedBy (Some (from, to)) at number vs = NumberedAt at number vs from to
NumberedBy None at number vs = version_numbered number vs ≡ none

abbrev pub Numbered : List ℕ → ℕ → ℕ → Option (ℕ × ℕ) → Type 0
Numbered s at number r = (p : VersionsAhead s at) → NumberedBy r at number p.versions
