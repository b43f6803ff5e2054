-- Stores worked out by computation: a small one byte by byte, each case of refusal 31, and what is none.
use Rattle.std.specs.Prelude.{ℕ, zero, suc, true, false, ◌≡◌, refl, List, [], ◌∷◌, ◌++◌, map, length, replicate}
use Rattle.std.proofs.Math.Option.{some}
use Rattle.format.specs.Fields.{name_bytes}
use Rattle.format.specs.Reader.{same_name}
use Rattle.tagged.specs.Fields.{write_fields}
use Rattle.store.specs.Store.{Entry, fields_from, settings_at, versions_at, entries_at, in_place, all_contents_formed, rising, up_to, is_set, settings_apart, all_apart, has_entry, entries_formed, store_formed, reading}
use Rattle.store.specs.Writing.{setting_fields, version_fields, fields_for, writing}

-- fields as bytes: the name of one byte, the highest version, a version and a setting of a name of one byte
abbrev named : ℕ → List ℕ
named c = 1 ∷ 0 ∷ 1 ∷ c ∷ []

abbrev highest : ℕ → List ℕ
highest n = 4 ∷ 0 ∷ 4 ∷ 0 ∷ 0 ∷ 0 ∷ n ∷ []

abbrev version : ℕ → List ℕ
version n = 2 ∷ 0 ∷ 4 ∷ 0 ∷ 0 ∷ 0 ∷ n ∷ []

abbrev setting : ℕ → ℕ → List ℕ
setting c x = 3 ∷ 0 ∷ 5 ∷ c ∷ 0 ∷ 0 ∷ 0 ∷ x ∷ []

-- the name "a" with its highest version 7
abbrev a7 : List ℕ
a7 = named 97 ++ highest 7

-- so many versions from a number on, and so many settings
unfoldable pub versions_from : ℕ → ℕ → List ℕ
versions_from zero n = []
versions_from (suc k) n = version n ++ versions_from k (suc n)

unfoldable pub settings_from : ℕ → ℕ → List ℕ
settings_from zero c = []
settings_from (suc k) c = setting c 0 ++ settings_from k (suc c)

-- the name "ab", of which version 258 was the last given and 2 and 258 are kept, and "c", of which none is; behind the closing 0 stands anything
abbrev example : List ℕ
example =
    1 ∷ 0 ∷ 2 ∷ 97 ∷ 98 ∷
    4 ∷ 0 ∷ 4 ∷ 0 ∷ 0 ∷ 1 ∷ 2 ∷
    2 ∷ 0 ∷ 4 ∷ 0 ∷ 0 ∷ 0 ∷ 2 ∷
    3 ∷ 0 ∷ 7 ∷ 97 ∷ 109 ∷ 112 ∷ 63 ∷ 128 ∷ 0 ∷ 0 ∷
    3 ∷ 0 ∷ 4 ∷ 0 ∷ 0 ∷ 0 ∷ 1 ∷
    2 ∷ 0 ∷ 4 ∷ 0 ∷ 0 ∷ 1 ∷ 2 ∷
    1 ∷ 0 ∷ 1 ∷ 99 ∷
    4 ∷ 0 ∷ 4 ∷ 0 ∷ 0 ∷ 0 ∷ 1 ∷ []

abbrev entries : List Entry
entries =
    record {
      name = 97 ∷ 98 ∷ [];
      highest = 258;
      versions =
          record { number = 2; settings = record { name = 97 ∷ 109 ∷ 112 ∷ []; float = 1065353216 } ∷ (record { name = []; float = 1 } ∷ []) }
          ∷ (record { number = 258; settings = [] } ∷ []);
    }
    ∷ (record { name = 99 ∷ []; highest = 1; versions = [] } ∷ [])

pub example_read : reading (example ++ (0 ∷ 1 ∷ 255 ∷ [])) ≡ some entries
unfolding store_formed fields_from settings_at versions_at entries_at in_place name_bytes all_contents_formed rising up_to same_name is_set settings_apart all_apart has_entry entries_formed
example_read = refl

pub example_written : writing entries ≡ example
unfolding write_fields setting_fields version_fields fields_for
example_written = refl

-- "31 a store not so formed": each of these is
abbrev unformed : List (List ℕ)
unformed =
    -- a tag above 4: behind an entry, first, and the highest
    (a7 ++ (5 ∷ 0 ∷ 0 ∷ []))
    ∷ ((5 ∷ 0 ∷ 4 ∷ 0 ∷ 0 ∷ 0 ∷ 1 ∷ []) ++ a7)
    ∷ (a7 ++ (255 ∷ 0 ∷ 0 ∷ []))
    -- tag 4 missing: the store ends, is closed, or goes on with a name, a version or a setting
    ∷ named 97
    ∷ (named 97 ++ (0 ∷ []))
    ∷ (named 97 ++ named 98 ++ highest 7)
    ∷ (named 97 ++ version 1)
    ∷ (named 97 ++ setting 98 0)
    -- tag 4 twice, or behind a version or a setting; a tag 2 before it
    ∷ (a7 ++ highest 7)
    ∷ (a7 ++ version 1 ++ highest 7)
    ∷ (a7 ++ version 1 ++ setting 98 0 ++ highest 7)
    ∷ (named 97 ++ version 1 ++ highest 7)
    -- without a name
    ∷ highest 7
    ∷ version 1
    ∷ setting 98 0
    -- a tag 3 without a version
    ∷ (a7 ++ setting 98 0)
    -- a tag 2 or 4 that is not four bytes long, a tag 3 under four
    ∷ (a7 ++ (2 ∷ 0 ∷ 3 ∷ 0 ∷ 0 ∷ 1 ∷ []))
    ∷ (a7 ++ (2 ∷ 0 ∷ 5 ∷ 0 ∷ 0 ∷ 0 ∷ 1 ∷ 0 ∷ []))
    ∷ (named 97 ++ (4 ∷ 0 ∷ 3 ∷ 0 ∷ 0 ∷ 7 ∷ []))
    ∷ (named 97 ++ (4 ∷ 0 ∷ 5 ∷ 0 ∷ 0 ∷ 0 ∷ 7 ∷ 0 ∷ []))
    ∷ (a7 ++ version 1 ++ (3 ∷ 0 ∷ 3 ∷ 0 ∷ 0 ∷ 0 ∷ []))
    ∷ (a7 ++ version 1 ++ (3 ∷ 0 ∷ 0 ∷ []))
    -- a head or a length that runs past the buffer
    ∷ (1 ∷ [])
    ∷ (1 ∷ 0 ∷ [])
    ∷ (1 ∷ 0 ∷ 1 ∷ [])
    ∷ (named 97 ++ (4 ∷ 0 ∷ 4 ∷ 0 ∷ 0 ∷ 7 ∷ []))
    ∷ (a7 ++ (1 ∷ 0 ∷ 2 ∷ 98 ∷ []))
    ∷ (a7 ++ (1 ∷ 1 ∷ 1 ∷ 98 ∷ []) ++ highest 7)
    ∷ (a7 ++ (2 ∷ []))
    -- an empty definition name, a name over 255 bytes, a byte outside 1 to 127
    ∷ ((1 ∷ 0 ∷ 0 ∷ []) ++ highest 7)
    ∷ ((1 ∷ 1 ∷ 0 ∷ []) ++ replicate 256 97 ++ highest 7)
    ∷ (named 0 ++ highest 7)
    ∷ (named 128 ++ highest 7)
    ∷ (a7 ++ version 1 ++ (3 ∷ 1 ∷ 4 ∷ []) ++ replicate 256 97 ++ (0 ∷ 0 ∷ 0 ∷ 0 ∷ []))
    ∷ (a7 ++ version 1 ++ setting 0 0)
    ∷ (a7 ++ version 1 ++ setting 128 0)
    -- versions that don't rise strictly
    ∷ (a7 ++ version 1 ++ version 1)
    ∷ (a7 ++ version 2 ++ setting 98 0 ++ version 1)
    -- a version or tag 4 of 0, a version above tag 4, over 16 versions
    ∷ (a7 ++ version 0)
    ∷ (named 97 ++ highest 0)
    ∷ (a7 ++ version 8)
    ∷ (named 97 ++ highest 17 ++ versions_from 17 1)
    -- a name twice, a control name twice in a version
    ∷ (a7 ++ a7)
    ∷ (a7 ++ named 98 ++ highest 1 ++ named 97 ++ highest 1)
    ∷ (a7 ++ version 1 ++ setting 98 0 ++ setting 98 1)
    ∷ (a7 ++ version 1 ++ setting 98 0 ++ setting 99 0 ++ setting 98 0)
    -- whatever comes before the fault
    ∷ (a7 ++ named 98 ++ highest 1 ++ version 2 ++ (0 ∷ []))
    ∷ []

pub all_unformed : map store_formed unformed ≡ replicate (length unformed) false
unfolding store_formed fields_from settings_at versions_at entries_at in_place name_bytes all_contents_formed rising up_to same_name is_set settings_apart all_apart has_entry entries_formed versions_from settings_from
all_unformed = refl

-- and none of these is
abbrev formed : List (List ℕ)
formed =
    -- a store of 0 bytes; any bytes behind a closing 0
    []
    ∷ (0 ∷ 1 ∷ 0 ∷ [])
    ∷ (a7 ++ (0 ∷ []) ++ named 97)
    -- a name with no version, a version with no tag 3, an empty control name
    ∷ a7
    ∷ (a7 ++ version 7)
    ∷ (a7 ++ version 1 ++ (3 ∷ 0 ∷ 4 ∷ 0 ∷ 0 ∷ 0 ∷ 0 ∷ []))
    -- more than 32 tag 3s, and 16 versions
    ∷ (a7 ++ version 1 ++ settings_from 33 33)
    ∷ (named 97 ++ highest 16 ++ versions_from 16 1)
    -- gaps in versions
    ∷ (a7 ++ version 2 ++ version 5)
    -- names or tag 3s in another order than ours
    ∷ (named 98 ++ highest 7 ++ a7)
    ∷ (a7 ++ version 1 ++ setting 99 0 ++ setting 98 0)
    -- a control in two versions, and one with its definition's name
    ∷ (a7 ++ version 1 ++ setting 97 0 ++ version 2 ++ setting 97 0)
    -- names of 255 bytes
    ∷ ((1 ∷ 0 ∷ 255 ∷ []) ++ replicate 255 97 ++ highest 7)
    ∷ (a7 ++ version 1 ++ (3 ∷ 1 ∷ 3 ∷ []) ++ replicate 255 127 ++ (0 ∷ 0 ∷ 0 ∷ 0 ∷ []))
    ∷ []

pub all-formed : map store_formed formed ≡ replicate (length formed) true
unfolding store_formed fields_from settings_at versions_at entries_at in_place name_bytes all_contents_formed rising up_to same_name is_set settings_apart all_apart has_entry entries_formed versions_from settings_from
all-formed = refl
