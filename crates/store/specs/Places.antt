-- What the functions on a formed store promise.
use Prim.{Unit}
use Rattle.std.specs.Prelude as std
use Rattle.std.specs.Prelude.{Result, Ok, Err, ℕ, ◌+◌, ◌-◌, ◌≤◌, ◌<◌, Bool, true, false, ◌≡◌, List, [], ◌∷◌, ◌++◌, length}
use Rattle.std.proofs.Math.Option.{Option, none, some}
use Rattle.words.specs.Choice.{pick}
use Rattle.words.specs.Parts.{region, put}
use Rattle.tagged.specs.Fields.{write_fields}
use Rattle.store.specs.Store.{Setting, Version, Entry, entries_of, is_name, has_entry}
use Rattle.store.specs.Writing.{setting_fields, writing, laid, saved, dropped, version_in, versions_for, highest_for}

-- names that are names, and floats of 32 bits
unfoldable pub AreSettings : List Setting → Type 0
AreSettings [] = Unit {0}
AreSettings (c ∷ cs) = (is_name c.name ≡ true) × ((c.float < 4294967296) × AreSettings cs)

-- settings where they stand: the part of the store from start up to end holds their fields and nothing else
pub record SettingsStand (s : List ℕ) (start end : ℕ) (cs : List Setting) : Type 0 where
  pub ordered : start ≤ end
  pub inside : end ≤ length s
  pub fields : region start (end - start) s ≡ write_fields (setting_fields cs)
  pub settings : AreSettings cs

-- how much a store takes after a save, how many versions stand under the name and which one is its highest
pub record Measured (name s : List ℕ) (size : ℕ) (count highest : ℕ) : Type 0 where
  pub versions : count ≡ length (versions_for name (entries_of s))
  pub given : highest ≡ highest_for name (entries_of s)
  pub room : (cs : List Setting) → size + length (write_fields (setting_fields cs)) ≡ length (writing (saved name cs (entries_of s)))

-- a store with a new version under a name, whose settings are still to be written: so many bytes from a place on
pub record Opened (name : List ℕ) (size : ℕ) (s : List ℕ) (at : ℕ) (s' : List ℕ) : Type 0 where
  pub same : length s' ≡ length s
  pub inside : at + size ≤ length s
  pub filled : (cs : List Setting) → length (write_fields (setting_fields cs)) ≡ size
      → put at size (write_fields (setting_fields cs)) s' ≡ laid (length s) (saved name cs (entries_of s))

-- a drop: whether there is such a version, and the store without it
abbrev pub is_some : {A : Type 0} → Option A → Bool
is_some none = false
is_some (some x) = true

pub record Dropped (name : List ℕ) (number : ℕ) (s : List ℕ) (r : Bool) (s' : List ℕ) : Type 0 where
  pub there : r ≡ is_some (version_in name number (entries_of s))
  pub store : s' ≡ pick r (laid (length s) (dropped name number (entries_of s))) s

-- the settings of a version of a name, found or not
pub record VersionStands (name : List ℕ) (number : ℕ) (s : List ℕ) (start end : ℕ) : Type 0 where
  pub version : Version
  pub there : version_in name number (entries_of s) ≡ some version
  pub settings : SettingsStand s start end version.settings

abbrev pub FoundVersion : std.Option (ℕ × ℕ) → List ℕ → ℕ → List ℕ → Type 0
FoundVersion (std.Some (start, end)) name number s = VersionStands name number s start end
FoundVersion std.None name number s = version_in name number (entries_of s) ≡ none

-- the entry of a name where it stands: the entries before it, of other names, take the bytes up to its place
pub record EntryStands (name s : List ℕ) (at : ℕ) : Type 0 where
  pub before : List Entry
  pub entry : Entry
  pub after : List Entry
  pub split : entries_of s ≡ before ++ (entry ∷ after)
  pub apart : has_entry name before ≡ false
  pub same : (entry).name ≡ name
  pub place : at ≡ length (writing before)

-- or the end of the contents, where no entry has the name
pub record NoEntry (name s : List ℕ) (at : ℕ) : Type 0 where
  pub apart : has_entry name (entries_of s) ≡ false
  pub place : at ≡ length (writing (entries_of s))

abbrev pub FoundEntry : Result ℕ ℕ → List ℕ → List ℕ → Type 0
FoundEntry (Ok at) name s = EntryStands name s at
FoundEntry (Err at) name s = NoEntry name s at
