-- Fields of a store from a place on: what the functions that look for an entry and a version stand on.
use Rattle.std.specs.Prelude.{ℕ, ◌+◌, ◌≤◌, true, ◌≡◌, List, [], ◌∷◌, ◌++◌, length, drop, leb}
use Rattle.words.specs.Choice.{pick}
use Rattle.tagged.specs.Fields.{Field, write_fields}
use Rattle.store.specs.Store.{Version, Entry, closes}
use Rattle.store.specs.Writing.{version_fields, entry_fields, fields_for}
use Rattle.store.specs.Sizes.{AreVersions}
use Rattle.store.specs.WritingLaws.{AreFields}

-- from a place on stand these fields, and what closes the store behind them
pub record FieldsAhead (s : List ℕ) (at : ℕ) (fs : List Field) : Type 0 where
  pub rest : List ℕ
  pub inside : at ≤ length s
  pub split : drop at s ≡ write_fields fs ++ rest
  pub sized : AreFields fs
  pub closed : closes rest ≡ true

-- some fields, an entry and others, versions and then entries
pub record SomeAhead (s : List ℕ) (at : ℕ) : Type 0 where
  pub fields : List Field
  pub ahead : FieldsAhead s at fields

pub record EntryAhead (s : List ℕ) (at : ℕ) : Type 0 where
  pub entry : Entry
  pub after : List Entry
  pub ahead : FieldsAhead s at (entry_fields entry ++ fields_for after)

pub record VersionsAhead (s : List ℕ) (at : ℕ) : Type 0 where
  pub versions : List Version
  pub after : List Entry
  pub ahead : FieldsAhead s at (version_fields versions ++ fields_for after)
  pub sized : AreVersions versions

-- the fields up to the first whose tag is below a lowest one
unfoldable pub leading : ℕ → List Field → List Field
leading lowest [] = []
leading lowest (f ∷ fs) = pick (leb lowest f.tag) (f ∷ leading lowest fs) []

-- the place past them
abbrev pub PastTags : ℕ → List ℕ → ℕ → ℕ → Type 0
PastTags lowest s at end = (fs : List Field) → FieldsAhead s at fs → end ≡ at + length (write_fields (leading lowest fs))

-- from an entry's place: where its versions stand, and the place past it
pub record VersionsFrom (s : List ℕ) (e : Entry) (es : List Entry) (at start : ℕ) : Type 0 where
  pub ahead : FieldsAhead s start (version_fields e.versions ++ fields_for es)
  pub place : start + length (write_fields (version_fields e.versions)) ≡ at + length (write_fields (entry_fields e))

abbrev pub VersionsStart : List ℕ → ℕ → ℕ → Type 0
VersionsStart s at start = (e : Entry) (es : List Entry) → FieldsAhead s at (entry_fields e ++ fields_for es) → VersionsFrom s e es at start

abbrev pub PastEntry : List ℕ → ℕ → ℕ → Type 0
PastEntry s at end = (e : Entry) (es : List Entry) → FieldsAhead s at (entry_fields e ++ fields_for es) → end ≡ at + length (write_fields (entry_fields e))
