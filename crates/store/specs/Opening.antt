-- What the functions that change a store's bytes stand on and leave, place by place.
use Rattle.std.specs.Prelude.{ℕ, ◌+◌, ◌≤◌, ◌<◌, Bool, true, false, ◌≡◌, List, length}
use Rattle.std.proofs.Math.Option.{none}
use Rattle.format.specs.Fields.{word}
use Rattle.tagged.specs.Fields.{head_size, write_field, write_fields}
use Rattle.store.specs.Store.{Setting, store_formed, entries_of, is_name}
use Rattle.store.specs.Writing.{setting_fields, name_field, version_field, highest_field, writing, saved, version_numbered, highest_for, last_version}
use Rattle.store.specs.SplitLaws.{versions_bytes}
use Rattle.store.specs.Ahead.{VersionsAhead}
use Rattle.store.specs.Walk.{NumberedAt}
use Rattle.store.specs.Edit.{number_field, version_put, entry_put, run_cut}

-- what a version may be opened for: a name, in a formed store with room for it and so many bytes more, under which the last version was not given
pub record Openable (name : List ℕ) (size : ℕ) (s : List ℕ) : Type 0 where
  pub formed : store_formed s ≡ true
  pub full : 0 < length name
  pub named : is_name name ≡ true
  pub given : highest_for name (entries_of s) ≡ last_version → ⊥
  pub measure : ℕ
  pub measured : (cs : List Setting) → measure + length (write_fields (setting_fields cs)) ≡ length (writing (saved name cs (entries_of s)))
  pub room : measure + size ≤ length s

-- a formed store with the highest version of an entry at a place, and its versions behind it
pub record HeadStands (s : List ℕ) (head : ℕ) : Type 0 where
  pub formed : store_formed s ≡ true
  pub versions : VersionsAhead s (head + number_field)
  pub before : head + (number_field + length (versions_bytes versions.versions)) ≤ length (writing (entries_of s))

-- its measure
pub record EntryMeasured (s : List ℕ) (head size count highest : ℕ) : Type 0 where
  pub long : size ≡ length (writing (entries_of s)) + number_field
  pub many : (p : VersionsAhead s (head + number_field)) → count ≡ length p.versions
  pub given : highest ≡ word s (head + head_size)

-- room for a version more, of a number that four bytes hold
pub record VersionRoom (s : List ℕ) (head size : ℕ) : Type 0 where
  pub stand : HeadStands s head
  pub number : word s (head + head_size) + 1 < 4294967296
  pub room : length (writing (entries_of s)) + (number_field + size) ≤ length s

abbrev pub VersionAdded : List ℕ → ℕ → ℕ → ℕ → List ℕ → Type 0
VersionAdded s head size r s' =
    (p : VersionsAhead s (head + number_field))
    → (r ≡ head + (number_field + length (versions_bytes p.versions)) + number_field)
    × (s' ≡ version_put head (head + (number_field + length (versions_bytes p.versions))) (length (writing (entries_of s))) size
    (write_field (highest_field (word s (head + head_size) + 1))) (write_field (version_field (word s (head + head_size) + 1))) s)

pub record EntryAdded (name s : List ℕ) (at size r : ℕ) (s' : List ℕ) : Type 0 where
  pub start : r ≡ at + (length (write_field (name_field name)) + (number_field + number_field))
  pub bytes : s' ≡ entry_put at size (write_field (name_field name)) (write_field (highest_field 1)) (write_field (version_field 1)) s

-- a run of the contents
pub record RunStands (s : List ℕ) (from to : ℕ) : Type 0 where
  pub formed : store_formed s ≡ true
  pub ordered : from ≤ to
  pub inside : to ≤ length (writing (entries_of s))

-- the version of a number taken out, or none there
pub record NumberCutOut (s : List ℕ) (head number : ℕ) (p : VersionsAhead s (head + number_field)) (s' : List ℕ) : Type 0 where
  pub from : ℕ
  pub to : ℕ
  pub found : NumberedAt (head + number_field) number p.versions from to
  pub bytes : s' ≡ run_cut from to (length (writing (entries_of s))) s

abbrev pub NumberCutBy : Bool → (s : List ℕ) (head number : ℕ) → VersionsAhead s (head + number_field) → List ℕ → Type 0
NumberCutBy true s head number p s' = NumberCutOut s head number p s'
NumberCutBy false s head number p s' = (version_numbered number p.versions ≡ none) × (s' ≡ s)

abbrev pub NumberCut : List ℕ → ℕ → ℕ → Bool → List ℕ → Type 0
NumberCut s head number r s' = (p : VersionsAhead s (head + number_field)) → NumberCutBy r s head number p s'
