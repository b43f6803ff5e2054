-- A formed store by one walk along its fields: what comes first in what is left of it, and what is left to be found formed there.
use Rattle.std.specs.Prelude.{ℕ, ◌<◌, Bool, true, false, ◌≡◌, List, [], ◌∷◌, length, leb, eqb, Option, Some, None}
use Rattle.std.specs.Borrow.{Bor}
use Rattle.words.specs.Choice.{pick, both}
use Rattle.format.specs.Reader.{same_name}
use Rattle.tagged.specs.Fields.{Field, is_cut, field_in, behind}
use Rattle.store.specs.declared.formed.Tagged.{Tagged}
use Rattle.store.specs.declared.formed.Walk.{Walk}
use Rattle.store.specs.Store.{name_tag, closes, cut_field, fields_of, settings_at, versions_at, highest_at, entries_at, may_follow, in_place, contents_formed, all_contents_formed, rising, up_to, settings_apart, all_apart, most_versions, entry_formed, entries_formed}

-- a field as its tag and its contents
abbrev pub field_with : ℕ → List ℕ → Field
field_with tag contents = record { tag = tag; contents = contents }

abbrev pub field_of : Tagged → Field
field_of t = field_with t.tag t.contents.now

-- the first field of what is left of a store, a whole one, and what lies right behind it
pub record FieldFirst (s : List ℕ) (f : Field) (rest : List ℕ) : Type 0 where
  pub whole : is_cut s ≡ false
  pub first : f ≡ field_in s
  pub next : rest ≡ behind s
  pub fields : fields_of s ≡ f ∷ fields_of rest
  pub shorter : length rest < length s

abbrev pub FirstField : Option (Tagged × Bor (List ℕ)) → List ℕ → Type 0
FirstField (Some (t, rest)) s = FieldFirst s (field_of t) rest.now
FirstField None s = fields_of s ≡ pick (closes s) [] (cut_field ∷ [])

-- a field that is a definition name, and this one
abbrev pub is_named : List ℕ → Field → Bool
is_named name f = both (eqb f.tag name_tag) (same_name f.contents name)

-- behind a name or a highest version, and at the start, where both are 0
abbrev pub walk_under : ℕ → ℕ → Walk
walk_under before highest = record { before = before; last = 0; highest = highest; room = most_versions }

-- of an entry whose name was met, the tests of its fields that are left: all directly behind the name, else those of the versions that come and of
-- the settings directly ahead
abbrev pub entry_left : Walk → List Field → Bool
entry_left w fs =
    pick (eqb w.before name_tag) (entry_formed (record { name = []; highest = highest_at fs; versions = versions_at fs }))
    (both (rising w.last (versions_at fs))
    (both (up_to w.highest (versions_at fs))
    (both (leb (length (versions_at fs)) w.room)
    (both (settings_apart (settings_at fs)) (all_apart (versions_at fs))))))

-- what is left to be found formed, with the fields that are left
unfoldable pub left_formed : Walk → List Field → Bool
left_formed w fs = both (in_place w.before fs) (both (all_contents_formed fs) (both (entry_left w fs) (entries_formed (entries_at fs))))

abbrev pub left_after : Option Walk → List Field → Bool
left_after (Some w) fs = left_formed w fs
left_after None fs = false

-- what a step past a field leaves is what was left at it
abbrev pub StepsPast : Walk → Field → List Field → Option Walk → Type 0
StepsPast w f fs r = left_after r fs ≡ left_formed w (f ∷ fs)

-- it stands in its place and has its tag's contents
pub record FieldTaken (w : Walk) (f : Field) : Type 0 where
  pub placed : may_follow f.tag w.before ≡ true
  pub formed : contents_formed f ≡ true
