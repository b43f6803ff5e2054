-- Entries as bytes, and what a save and a drop make of them: paper 02, 8/14.
use Rattle.std.specs.Prelude.{ℕ, ◌+◌, ◌-◌, Bool, List, [], ◌∷◌, ◌++◌, length, replicate, ltb, eqb}
use Rattle.std.proofs.Math.Option.{Option, none, some}
use Rattle.words.specs.Choice.{pick, either}
use Rattle.words.specs.Bytes.{bytes32}
use Rattle.format.specs.Reader.{same_name}
use Rattle.tagged.specs.Fields.{Field, write_fields}
use Rattle.store.specs.Store.{Setting, Version, Entry, name_tag, version_tag, setting_tag, highest_tag}

-- the fields of a setting, a version, an entry
abbrev pub setting_field : Setting → Field
setting_field c = record { tag = setting_tag; contents = c.name ++ bytes32 c.float }

unfoldable pub setting_fields : List Setting → List Field
setting_fields [] = []
setting_fields (c ∷ cs) = setting_field c ∷ setting_fields cs

abbrev pub version_field : ℕ → Field
version_field number = record { tag = version_tag; contents = bytes32 number }

abbrev pub highest_field : ℕ → Field
highest_field number = record { tag = highest_tag; contents = bytes32 number }

abbrev pub name_field : List ℕ → Field
name_field name = record { tag = name_tag; contents = name }

unfoldable pub version_fields : List Version → List Field
version_fields [] = []
version_fields (v ∷ vs) = version_field v.number ∷ (setting_fields v.settings ++ version_fields vs)

abbrev pub entry_fields : Entry → List Field
entry_fields e = name_field e.name ∷ (highest_field e.highest ∷ version_fields e.versions)

unfoldable pub fields_for : List Entry → List Field
fields_for [] = []
fields_for (e ∷ es) = entry_fields e ++ fields_for es

-- the writing of entries: the contents of a store, which what closes it stands behind
abbrev pub writing : List Entry → List ℕ
writing es = write_fields (fields_for es)

-- "a save or drop zeroes the rest": a store of a size with these entries
abbrev pub laid : ℕ → List Entry → List ℕ
laid size es = writing es ++ replicate (size - length (writing es)) 0

-- the entry of a name, and its version of a number
unfoldable pub entry_named : List ℕ → List Entry → Option Entry
entry_named name [] = none
entry_named name (e ∷ es) = pick (same_name e.name name) (some e) (entry_named name es)

unfoldable pub version_numbered : ℕ → List Version → Option Version
version_numbered number [] = none
version_numbered number (v ∷ vs) = pick (eqb v.number number) (some v) (version_numbered number vs)

-- "no such version": of an entry, if there is one
abbrev pub version_by : ℕ → Option Entry → Option Version
version_by number none = none
version_by number (some e) = version_numbered number e.versions

abbrev pub version_in : List ℕ → ℕ → List Entry → Option Version
version_in name number es = version_by number (entry_named name es)

-- the highest version ever given for a name, 0 where none was; and how many versions stand there
abbrev pub highest_by : Option Entry → ℕ
highest_by none = 0
highest_by (some e) = e.highest

abbrev pub highest_for : List ℕ → List Entry → ℕ
highest_for name es = highest_by (entry_named name es)

abbrev pub versions_by : Option Entry → List Version
versions_by none = []
versions_by (some e) = e.versions

abbrev pub versions_for : List ℕ → List Entry → List Version
versions_for name es = versions_by (entry_named name es)

-- "Version numbers rise from 1 for each name": a save's version is the highest one and one more, and stands last
abbrev pub with_version : List Setting → Entry → Entry
with_version cs e = record {
  name = e.name;
  highest = e.highest + 1;
  versions = e.versions ++ (record { number = e.highest + 1; settings = cs } ∷ []);
}

abbrev pub first_entry : List ℕ → List Setting → Entry
first_entry name cs = with_version cs (record { name = name; highest = 0; versions = [] })

-- the entries after a save: "names by first save", so that a new one comes last
unfoldable pub saved : List ℕ → List Setting → List Entry → List Entry
saved name cs [] = first_entry name cs ∷ []
saved name cs (e ∷ es) = pick (same_name e.name name) (with_version cs e ∷ es) (e ∷ saved name cs es)

-- the entries after a drop: "Tag 4 .. outlives a drop"
unfoldable pub without : ℕ → List Version → List Version
without number [] = []
without number (v ∷ vs) = pick (eqb v.number number) vs (v ∷ without number vs)

abbrev pub without_version : ℕ → Entry → Entry
without_version number e = record { name = e.name; highest = e.highest; versions = without number e.versions }

unfoldable pub dropped : List ℕ → ℕ → List Entry → List Entry
dropped name number [] = []
dropped name number (e ∷ es) = pick (same_name e.name name) (without_version number e ∷ es) (e ∷ dropped name number es)

-- "33 exactly if the new contents would exceed the lent store, room of dropped versions counting as free, or if version 4,294,967,295 was given"
abbrev pub last_version : ℕ
last_version = 4294967295

abbrev pub no_room_for : List ℕ → List Setting → ℕ → List Entry → Bool
no_room_for name cs size es = either (ltb size (length (writing (saved name cs es)))) (eqb (highest_for name es) last_version)
