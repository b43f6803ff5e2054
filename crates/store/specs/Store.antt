-- The store of saved settings: paper 02, 8/14. What its bytes hold, and when they are so formed.
use Rattle.std.specs.Prelude.{ℕ, zero, suc, ◌-◌, Bool, true, false, not, List, [], ◌∷◌, length, take, get_or, ltb, leb, eqb}
use Rattle.std.proofs.Math.Option.{Option, none, some}
use Rattle.words.specs.Choice.{pick, both, either}
use Rattle.format.specs.Fields.{word, name_bytes}
use Rattle.format.specs.Reader.{same_name}
use Rattle.tagged.specs.Fields.{Field, is_cut, field_in, behind}

-- "a control's name and then its float"
pub record Setting : Type 0 where
  pub name : List ℕ
  pub float : ℕ

-- "up to 16 saved versions of control settings"
pub record Version : Type 0 where
  pub number : ℕ
  pub settings : List Setting

-- "For each definition name": its highest version ever given, and those that are kept
pub record Entry : Type 0 where
  pub name : List ℕ
  pub highest : ℕ
  pub versions : List Version

-- "Tag 1 is the name, tag 2 the version (four bytes), tag 3 a control's name and then its float"; "Tag 4 is the highest version ever given for a name
-- (four bytes)"
abbrev pub name_tag : ℕ
name_tag = 1

abbrev pub version_tag : ℕ
version_tag = 2

abbrev pub setting_tag : ℕ
setting_tag = 3

abbrev pub highest_tag : ℕ
highest_tag = 4

-- the bytes of a version, of a highest version and of a float
abbrev pub number_size : ℕ
number_size = 4

-- "tag byte 0 or the buffer's end closes the store"
abbrev pub closes : List ℕ → Bool
closes s = eqb (get_or s 0 0) 0

-- a field that is cut, told by the tag 0, which no other field has: it has no place anywhere
abbrev pub cut_field : Field
cut_field = record { tag = 0; contents = [] }

-- the fields of a store, up to what closes it; each takes a byte or more, so that as many steps as there are bytes do
unfoldable pub fields_from : ℕ → List ℕ → List Field
fields_from zero s = []
fields_from (suc n) s = pick (closes s) [] (pick (is_cut s) (cut_field ∷ []) (field_in s ∷ fields_from n (behind s)))

abbrev pub fields_of : List ℕ → List Field
fields_of s = fields_from (length s) s

-- a field's number, and its setting: "a control's name and then its float"
abbrev pub number_in : Field → ℕ
number_in f = word f.contents 0

abbrev pub setting_name_in : Field → List ℕ
setting_name_in f = take (length f.contents - number_size) f.contents

abbrev pub setting_in : Field → Setting
setting_in f = record { name = setting_name_in f; float = word f.contents (length f.contents - number_size) }

-- "For each name stand tag 1, tag 4, then its versions rising, each with its tag 3s": the settings that stand directly behind a version,
unfoldable pub settings_at : List Field → List Setting
settings_at [] = []
settings_at (f ∷ fs) = pick (eqb f.tag setting_tag) (setting_in f ∷ settings_at fs) []

-- the versions up to the next name,
unfoldable pub versions_at : List Field → List Version
versions_at [] = []
versions_at (f ∷ fs) =
    pick (eqb f.tag name_tag) []
    (pick (eqb f.tag version_tag) (record { number = number_in f; settings = settings_at fs } ∷ versions_at fs) (versions_at fs))

-- the highest version, which stands directly behind the name,
abbrev pub highest_at : List Field → ℕ
highest_at [] = 0
highest_at (f ∷ fs) = number_in f

-- and the entries, one for each name
unfoldable pub entries_at : List Field → List Entry
entries_at [] = []
entries_at (f ∷ fs) =
    pick (eqb f.tag name_tag) (record { name = f.contents; highest = highest_at fs; versions = versions_at fs } ∷ entries_at fs) (entries_at fs)

-- "tag 1, tag 4, then its versions .., each with its tag 3s": a name comes first or behind a whole entry, a highest version behind its name, a version
-- behind a highest version, a version or a setting, a setting behind a version or a setting; 0 stands for the store's start
abbrev pub may_follow : ℕ → ℕ → Bool
may_follow tag before =
    pick (eqb tag name_tag) (not (eqb before name_tag))
    (pick (eqb tag highest_tag) (eqb before name_tag)
    (pick (eqb tag version_tag) (ltb name_tag before)
    (pick (eqb tag setting_tag) (either (eqb before version_tag) (eqb before setting_tag)) false)))

-- .. of all fields behind a tag, and the store doesn't end behind a name
unfoldable pub in_place : ℕ → List Field → Bool
in_place before [] = not (eqb before name_tag)
in_place before (f ∷ fs) = both (may_follow f.tag before) (in_place f.tag fs)

-- "all names as in 01": "0 to 255 bytes, each from 1 to 127"
abbrev pub longest_name : ℕ
longest_name = 255

abbrev pub is_name : List ℕ → Bool
is_name n = both (leb (length n) longest_name) (name_bytes n)

-- "a definition name isn't empty (H)"; a version and a highest version have four bytes, a setting a name and four bytes
abbrev pub contents_formed : Field → Bool
contents_formed f =
    pick (eqb f.tag name_tag) (both (ltb 0 (length f.contents)) (is_name f.contents))
    (pick (eqb f.tag setting_tag) (both (leb number_size (length f.contents)) (is_name (setting_name_in f)))
    (eqb (length f.contents) number_size))

unfoldable pub all_contents_formed : List Field → Bool
all_contents_formed [] = true
all_contents_formed (f ∷ fs) = both (contents_formed f) (all_contents_formed fs)

-- "its versions rising": each above the one before; above 0 at first, "a version .. of 0"
unfoldable pub rising : ℕ → List Version → Bool
rising before [] = true
rising before (v ∷ vs) = both (ltb before v.number) (rising v.number vs)

-- "a version above tag 4"
unfoldable pub up_to : ℕ → List Version → Bool
up_to highest [] = true
up_to highest (v ∷ vs) = both (leb v.number highest) (up_to highest vs)

-- "a control twice in a version"
unfoldable pub is_set : List ℕ → List Setting → Bool
is_set name [] = false
is_set name (c ∷ cs) = either (same_name c.name name) (is_set name cs)

unfoldable pub settings_apart : List Setting → Bool
settings_apart [] = true
settings_apart (c ∷ cs) = both (not (is_set c.name cs)) (settings_apart cs)

unfoldable pub all_apart : List Version → Bool
all_apart [] = true
all_apart (v ∷ vs) = both (settings_apart v.settings) (all_apart vs)

-- "or over 16 versions"
abbrev pub most_versions : ℕ
most_versions = 16

-- of an entry: "a version or tag 4 of 0, a version above tag 4, or over 16 versions"
abbrev pub entry_formed : Entry → Bool
entry_formed e =
    both (ltb 0 e.highest)
    (both (rising 0 e.versions)
    (both (up_to e.highest e.versions)
    (both (leb (length e.versions) most_versions)
    (all_apart e.versions))))

-- "a name twice"
unfoldable pub has_entry : List ℕ → List Entry → Bool
has_entry name [] = false
has_entry name (e ∷ es) = either (same_name e.name name) (has_entry name es)

unfoldable pub entries_formed : List Entry → Bool
entries_formed [] = true
entries_formed (e ∷ es) = both (entry_formed e) (both (not (has_entry e.name es)) (entries_formed es))

-- "31 a store not so formed, order of names and tag 3s aside": it looks at the whole store
abbrev pub formed_by : List Field → Bool
formed_by fs = both (in_place 0 fs) (both (all_contents_formed fs) (entries_formed (entries_at fs)))

unfoldable pub store_formed : List ℕ → Bool
store_formed s = formed_by (fields_of s)

-- the reading of a store: its entries, or none
abbrev pub entries_of : List ℕ → List Entry
entries_of s = entries_at (fields_of s)

abbrev pub reading : List ℕ → Option (List Entry)
reading s = pick (store_formed s) (some (entries_of s)) none
