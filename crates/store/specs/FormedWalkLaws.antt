-- Laws of `FormedWalk`: what each field leaves to be found formed behind it.
use Rattle.std.specs.Prelude.{ℕ, zero, suc, ◌-◌, ◌≤◌, ◌<◌, Bool, not, ◌≡◌, List, [], ◌∷◌, length, leb, eqb}
use Rattle.std.proofs.Math.Bool.{true, false}
use Rattle.std.proofs.Math.Path.{refl}
use Rattle.std.proofs.Common.{ap, subst, ◌∙◌, arith}
use borrow.Author.Tests.{lt-ltb, le-ltb, le-leb, lt-leb, ltb-true, ne_eqb, eqb-true, not-true}
use Rattle.std.proofs.Math.Dec.{leb-zero, leb-suc-zero, leb-suc-suc}
use Rattle.words.specs.Choice.{pick, both}
use Rattle.words.specs.ChoiceLaws.{both_true}
use Rattle.format.specs.Fields.{word}
use Rattle.format.specs.Reader.{same_name}
use Rattle.tagged.specs.Fields.{Field}
use Rattle.store.specs.declared.formed.Walk.{Walk}
use Rattle.store.specs.Store.{Entry, name_tag, version_tag, setting_tag, highest_tag, cut_field, fields_of, setting_name_in, settings_at, versions_at, highest_at, entries_at, may_follow, in_place, contents_formed, all_contents_formed, rising, up_to, is_set, settings_apart, all_apart, has_entry, entries_formed, formed_by, store_formed}
use Rattle.store.specs.FormedWalk.{is_named, walk_under, left_formed, field_with, FieldTaken}

both_no : (a : Bool) → both a false ≡ false
both_no true = refl
both_no false = refl

-- tests behind one that holds only where they are the same
by_first : (p a b : Bool) → (p ≡ true → a ≡ b) → both p a ≡ both p b
by_first true a b h = h refl
by_first false a b h = refl

-- one more of so many is one of one fewer
one_fewer : (n m : ℕ) → 0 < m → leb (suc n) m ≡ leb n (m - 1)
one_fewer n zero h = absurd (omega arith)
one_fewer n (suc m) h =
    let e : m ≡ suc m - 1 = omega arith in
    leb-suc-suc n m ∙ ap (λ (k : ℕ). leb n k) e

-- no setting stands directly behind a highest version, and a name stands first
not_setting : (t : ℕ) → may_follow t highest_tag ≡ true → eqb t setting_tag ≡ false
not_setting t h = ne_eqb t setting_tag (λ e. no (rw e at h)) where
  no : false ≡ true → ⊥
  no h = let z : ◌≡◌ {A = ℕ} 0 1 = cc in omega arith

no_settings : (fs : List Field) → in_place highest_tag fs ≡ true → settings_at fs ≡ []
unfolding in_place settings_at
no_settings [] h = refl
no_settings (f ∷ fs) h = rw (not_setting f.tag (both_true (may_follow f.tag highest_tag) (in_place f.tag fs) h).0)

first-name : (a b c d : Bool) → pick a true (pick b false (pick c false (pick d false false))) ≡ true → a ≡ true
first-name true b c d h = refl
first-name false true c d h = h
first-name false false true d h = h
first-name false false false true h = h
first-name false false false false h = h

-- at the start all is left
pub left_start : (fs : List Field) → left_formed (walk_under 0 0) fs ≡ formed_by fs
unfolding left_formed in_place all_contents_formed settings_at versions_at entries_at rising up_to settings_apart all_apart entries_formed
left_start [] = refl
left_start (f ∷ fs) =
    by_first (in_place 0 (f ∷ fs)) _ _
    (λ p.
    let named : eqb f.tag name_tag ≡ true =
    first-name (eqb f.tag name_tag) (eqb f.tag highest_tag) (eqb f.tag version_tag) (eqb f.tag setting_tag)
    (both_true (may_follow f.tag 0) (in_place f.tag fs) p).0 in
    rw (eqb-true f.tag name_tag named))

pub walk_begins : (s : List ℕ) → left_formed (walk_under 0 0) (fields_of s) ≡ store_formed s
unfolding store_formed
walk_begins s = left_start (fields_of s)

-- where no whole field is left, the store closes and isn't behind a name
pub left_end : (w : Walk) (closed : Bool) → left_formed w (pick closed [] (cut_field ∷ [])) ≡ both closed (not (eqb w.before name_tag))
unfolding left_formed in_place all_contents_formed settings_at versions_at entries_at rising up_to settings_apart all_apart entries_formed
left_end w false = refl
left_end w true = rw leb-zero (go (eqb w.before name_tag)) where
  go : (a : Bool) → both (not a) (both (pick a false true) true) ≡ not a
  go true = refl
  go false = refl

module _ (w : Walk) (f : Field) (fs : List Field) where
  pub left_misplaced : may_follow f.tag w.before ≡ false → left_formed w (f ∷ fs) ≡ false
  unfolding left_formed in_place
  left_misplaced h = rw h

  pub left_unformed : contents_formed f ≡ false → left_formed w (f ∷ fs) ≡ false
  unfolding left_formed all_contents_formed
  left_unformed h = rw h (both_no (in_place w.before (f ∷ fs)))

-- a field by its tag
module _ (w : Walk) (f : Field) (fs : List Field) (tag : ℕ) (told : f.tag ≡ tag) where
  left_told : left_formed w (f ∷ fs) ≡ left_formed w (field_with tag f.contents ∷ fs)
  left_told = ap (λ (t : ℕ). left_formed w (field_with t f.contents ∷ fs)) told

  taken_told : may_follow f.tag w.before ≡ true → contents_formed f ≡ true → FieldTaken w (field_with tag f.contents)
  taken_told p c = subst (λ (t : ℕ). FieldTaken w (field_with t f.contents)) told (record { placed = p; formed = c })

-- a field of each tag
module _ (w : Walk) (b : List ℕ) (fs : List Field) where
  module _ (h : FieldTaken w (field_with name_tag b)) where
    left_name_again : has_entry b (entries_at fs) ≡ true → left_formed w (field_with name_tag b ∷ fs) ≡ false
    unfolding left_formed in_place all_contents_formed settings_at versions_at entries_at rising up_to settings_apart all_apart entries_formed
    left_name_again e = rw e (simp both_no)

    left_name : has_entry b (entries_at fs) ≡ false → left_formed w (field_with name_tag b ∷ fs) ≡ left_formed (walk_under name_tag 0) fs
    unfolding left_formed in_place all_contents_formed settings_at versions_at entries_at rising up_to settings_apart all_apart entries_formed
    left_name e = rw (not-true (eqb w.before name_tag) h.placed, h.formed, leb-zero, e)

  module _ (h : FieldTaken w (field_with highest_tag b)) where
    pub left_highest_zero : word b 0 ≡ 0 → left_formed w (field_with highest_tag b ∷ fs) ≡ false
    unfolding left_formed in_place all_contents_formed settings_at versions_at entries_at
    left_highest_zero e = rw (h.placed, h.formed, e) (simp both_no)

    pub left_highest : 0 < word b 0 → left_formed w (field_with highest_tag b ∷ fs) ≡ left_formed (walk_under highest_tag (word b 0)) fs
    unfolding left_formed in_place all_contents_formed settings_at versions_at entries_at settings_apart
    left_highest e = rw (h.placed, h.formed, lt-ltb 0 (word b 0) e) (by_first (in_place highest_tag fs) _ _ (λ p. rw (no_settings fs p)))

  module _ (h : FieldTaken w (field_with version_tag b)) where
    behind_highest : eqb w.before name_tag ≡ false
    behind_highest = ne_eqb w.before name_tag (λ e. omega (arith, ltb-true name_tag w.before h.placed))

    pub left_version_low : word b 0 ≤ w.last → left_formed w (field_with version_tag b ∷ fs) ≡ false
    unfolding left_formed in_place all_contents_formed settings_at versions_at entries_at rising up_to settings_apart all_apart
    left_version_low e = rw (behind_highest, le-ltb w.last (word b 0) e) (simp both_no)

    pub left_version_high : w.highest < word b 0 → left_formed w (field_with version_tag b ∷ fs) ≡ false
    unfolding left_formed in_place all_contents_formed settings_at versions_at entries_at rising up_to settings_apart all_apart
    left_version_high e = rw (behind_highest, lt-leb (word b 0) w.highest e) (simp both_no)

    pub left_version_many : w.room ≡ 0 → left_formed w (field_with version_tag b ∷ fs) ≡ false
    unfolding left_formed in_place all_contents_formed settings_at versions_at entries_at rising up_to settings_apart all_apart
    left_version_many e = rw (behind_highest, e, leb-suc-zero) (simp both_no)

    pub left_version : w.last < word b 0 → word b 0 ≤ w.highest → 0 < w.room
        → left_formed w (field_with version_tag b ∷ fs) ≡ left_formed (record { before = version_tag; last = word b 0; highest = w.highest; room = w.room - 1 }) fs
    unfolding left_formed in_place all_contents_formed settings_at versions_at entries_at rising up_to settings_apart all_apart
    left_version low high many =
        rw (
          behind_highest,
          h.placed,
          h.formed,
          lt-ltb w.last (word b 0) low,
          le-leb (word b 0) w.highest high,
          one_fewer (length (versions_at fs)) w.room many,
        )

  module _ (h : FieldTaken w (field_with setting_tag b)) where
    behind_version : eqb w.before name_tag ≡ false
    behind_version = ne_eqb w.before name_tag (λ e. no (rw e at h.placed)) where
      no : false ≡ true → ⊥
      no h = let z : ◌≡◌ {A = ℕ} 0 1 = cc in omega arith

    left_setting_again : is_set (setting_name_in (field_with setting_tag b)) (settings_at fs) ≡ true → left_formed w (field_with setting_tag b ∷ fs) ≡ false
    unfolding left_formed in_place all_contents_formed settings_at versions_at entries_at settings_apart
    left_setting_again e = rw (behind_version, e) (simp both_no)

    left_setting : is_set (setting_name_in (field_with setting_tag b)) (settings_at fs) ≡ false
        → left_formed w (field_with setting_tag b ∷ fs) ≡ left_formed (record { before = setting_tag; last = w.last; highest = w.highest; room = w.room }) fs
    unfolding left_formed in_place all_contents_formed settings_at versions_at entries_at settings_apart
    left_setting e = rw (behind_version, h.placed, h.formed, e)

-- a name and a setting that are formed and in their place
module _ (w : Walk) (f : Field) (fs : List Field) (placed : may_follow f.tag w.before ≡ true) (formed : contents_formed f ≡ true) where
  pub past_name_again : f.tag ≡ name_tag → has_entry f.contents (entries_at fs) ≡ true → left_formed w (f ∷ fs) ≡ false
  past_name_again told again = left_told w f fs name_tag told ∙ left_name_again w f.contents fs (taken_told w f fs name_tag told placed formed) again

  pub past_name : f.tag ≡ name_tag → has_entry f.contents (entries_at fs) ≡ false → left_formed w (f ∷ fs) ≡ left_formed (walk_under name_tag 0) fs
  past_name told first = left_told w f fs name_tag told ∙ left_name w f.contents fs (taken_told w f fs name_tag told placed formed) first

  pub past_setting_again : f.tag ≡ setting_tag → is_set (setting_name_in f) (settings_at fs) ≡ true → left_formed w (f ∷ fs) ≡ false
  past_setting_again told again =
      left_told w f fs setting_tag told ∙ left_setting_again w f.contents fs (taken_told w f fs setting_tag told placed formed) again

  pub past_setting : f.tag ≡ setting_tag → is_set (setting_name_in f) (settings_at fs) ≡ false
      → left_formed w (f ∷ fs) ≡ left_formed (record { before = setting_tag; last = w.last; highest = w.highest; room = w.room }) fs
  past_setting told first = left_told w f fs setting_tag told ∙ left_setting w f.contents fs (taken_told w f fs setting_tag told placed formed) first

-- a name that is looked for among the fields from a place on
module _ (name : List ℕ) (f : Field) (fs : List Field) where
  abbrev entry : Entry
  entry = record { name = f.contents; highest = highest_at fs; versions = versions_at fs }

  pub named_here : is_named name f ≡ true → has_entry name (entries_at (f ∷ fs)) ≡ true
  unfolding entries_at has_entry
  named_here h = go (eqb f.tag name_tag) h where
    go : (t : Bool) → both t (same_name f.contents name) ≡ true → has_entry name (pick t (entry ∷ entries_at fs) (entries_at fs)) ≡ true
    go true h = rw h
    go false h = (cc)

  pub named_later : is_named name f ≡ false → has_entry name (entries_at (f ∷ fs)) ≡ has_entry name (entries_at fs)
  unfolding entries_at has_entry
  named_later h = go (eqb f.tag name_tag) h where
    go : (t : Bool) → both t (same_name f.contents name) ≡ false
        → has_entry name (pick t (entry ∷ entries_at fs) (entries_at fs)) ≡ has_entry name (entries_at fs)
    go true h = rw h
    go false h = refl

  -- and a control among the settings
  pub set_none : (f.tag ≡ setting_tag → ⊥) → is_set name (settings_at (f ∷ fs)) ≡ false
  unfolding settings_at is_set
  set_none h = rw (ne_eqb f.tag setting_tag h)

  module _ (told : f.tag ≡ setting_tag) where
    pub set_here : same_name (setting_name_in f) name ≡ true → is_set name (settings_at (f ∷ fs)) ≡ true
    unfolding settings_at is_set
    set_here h = rw (told, h)

    pub set_later : same_name (setting_name_in f) name ≡ false → is_set name (settings_at (f ∷ fs)) ≡ is_set name (settings_at fs)
    unfolding settings_at is_set
    set_later h = rw (told, h)

-- none where no whole field is left
module _ (name : List ℕ) where
  pub named_end : (closed : Bool) → has_entry name (entries_at (pick closed [] (cut_field ∷ []))) ≡ false
  unfolding entries_at has_entry
  named_end true = refl
  named_end false = refl

  pub set_end : (closed : Bool) → is_set name (settings_at (pick closed [] (cut_field ∷ []))) ≡ false
  unfolding settings_at is_set
  set_end true = refl
  set_end false = refl
