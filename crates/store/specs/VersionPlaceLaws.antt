-- Laws of a version where it stands, and of its place under a name.
use Rattle.std.specs.Prelude.{ℕ, ◌+◌, ◌-◌, ◌≤◌, ◌≡◌, List, [], ◌∷◌, ◌++◌, length}
use Rattle.std.proofs.Common.{ap, ◌∙◌, subst, append_assoc, arith, length-append}
use Rattle.std.proofs.Math.Option.{none}
use Rattle.words.specs.Parts.{region}
use Rattle.tagged.specs.Fields.{Field, write_fields}
use Rattle.tagged.specs.FieldsLaws.{fields_append}
use Rattle.store.specs.Store.{Version, Entry, entries_of}
use Rattle.store.specs.Writing.{setting_fields, version_field, version_fields, entry_fields, fields_for, writing, entry_named, version_numbered, version_by, version_in}
use Rattle.store.specs.Places.{AreSettings, SettingsStand, EntryStands, NoEntry, VersionStands}
use Rattle.store.specs.Sizes.{AreVersions, EntrySized, AreEntries}
use Rattle.store.specs.NameLaws.{same_self}
use Rattle.store.specs.SplitLaws.{entries_append, versions_append, named_split, named_none, numbered_split}
use Rattle.store.specs.ReadingLaws.{StoreStands}
use Rattle.store.specs.Edit.{number_field}
use Rattle.store.specs.Ahead.{FieldsAhead, VersionsAhead, VersionsStart}
use Rattle.store.specs.AheadLaws.{ahead_behind, ahead_front}
use Rattle.store.specs.FindLaws.{entries_ahead}
use Rattle.store.specs.Walk.{NumberedAt}
use Rattle.store.specs.VersionWalkLaws.{version_length}

numbered_settings : (before : List Version) (v : Version) (after : List Version) → AreVersions (before ++ (v ∷ after)) → AreSettings v.settings
unfolding AreVersions
numbered_settings [] v after h = h.1.0
numbered_settings (x ∷ before) v after h = numbered_settings before v after h.1.1

-- the version of a number where it stands among others: behind its own field its settings, up to its end
module _ (s : List ℕ) (at number from to : ℕ) (p : VersionsAhead s at) (d : NumberedAt at number p.versions from to) where
  abbrev settings : List Field
  settings = setting_fields d.version.settings

  abbrev later : List Field
  later = version_fields d.after ++ fields_for p.after

  settings_ahead : FieldsAhead s (from + number_field) (settings ++ later)
  unfolding version_fields write_fields
  settings_ahead =
      let own : List Field = version_field d.version.number ∷ [] in
      let first : List Field = version_fields d.before ++ own in
      let group : version_fields p.versions ++ fields_for p.after ≡ first ++ (settings ++ later) =
      ap (λ (vs : List Version). version_fields vs ++ fields_for p.after) d.split
      ∙ ap (λ (fs : List Field). fs ++ fields_for p.after) (versions_append d.before (d.version ∷ d.after))
      ∙ simp append_assoc in
      let place : at + length (write_fields first) ≡ from + number_field =
      omega (arith, ap length (fields_append (version_fields d.before) own), length-append (write_fields (version_fields d.before)) (write_fields own), d.start) in
      let there : FieldsAhead s at (first ++ (settings ++ later)) = subst (λ (fs : List Field). FieldsAhead s at fs) group p.ahead in
      subst (λ (k : ℕ). FieldsAhead s k (settings ++ later)) place (ahead_behind s at first (settings ++ later) there)

  settings_length : to ≡ from + number_field + length (write_fields settings)
  settings_length = omega (arith, d.end, version_length d.version)

  pub version_inside : (from + number_field ≤ to) × (to ≤ length s)
  version_inside =
      let behind = ahead_behind s (from + number_field) settings later settings_ahead in
      (omega (arith, settings_length), omega (arith, settings_length, behind.inside))

  pub settings_stand : SettingsStand s (from + number_field) to d.version.settings
  settings_stand =
      let size : to - (from + number_field) ≡ length (write_fields settings) = omega (arith, settings_length) in
      record {
        ordered = version_inside.0;
        inside = version_inside.1;
        fields =
            ap (λ (k : ℕ). region (from + number_field) k s) size
            ∙ ahead_front s (from + number_field) settings later settings_ahead;
        settings = numbered_settings d.before d.version d.after (subst AreVersions d.split p.sized);
      }

sized_in : (before : List Entry) (e : Entry) (after : List Entry) → AreEntries (before ++ (e ∷ after)) → EntrySized e
unfolding AreEntries
sized_in [] e after h = h.0
sized_in (x ∷ before) e after h = sized_in before e after h.1

-- a name's entry at its place, and its versions
module _ (name s : List ℕ) (at : ℕ) (t : StoreStands s) (e : EntryStands name s at) where
  pub entry_there : FieldsAhead s at (entry_fields e.entry ++ fields_for e.after)
  unfolding fields_for
  entry_there =
      let whole : FieldsAhead s 0 (fields_for e.before ++ fields_for (e.entry ∷ e.after)) =
      rw (ap fields_for e.split ∙ entries_append e.before (e.entry ∷ e.after)) at (entries_ahead s t) in
      let here : at ≡ 0 + length (writing e.before) = e.place ∙ omega arith in
      rw here (ahead_behind s 0 (fields_for e.before) (fields_for (e.entry ∷ e.after)) whole)

  pub versions_there : AreVersions e.entry.versions
  versions_there = (sized_in e.before e.entry e.after (rw e.split at t.sized)).versions

  pub versions_of : (number : ℕ) → version_in name number (entries_of s) ≡ version_numbered number e.entry.versions
  versions_of number =
      ap (version_by number)
      (ap (entry_named name) e.split
      ∙ named_split name e.before e.entry e.after e.apart (rw e.same (same_self name)))

  abbrev pub versions_ahead : (start : ℕ) → VersionsStart s at start → VersionsAhead s start
  versions_ahead start from = record {
    versions = e.entry.versions;
    after = e.after;
    ahead = (from e.entry e.after entry_there).ahead;
    sized = versions_there;
  }

pub version_none : (name s : List ℕ) (at number : ℕ) → NoEntry name s at → version_in name number (entries_of s) ≡ none
version_none name s at number e = ap (version_by number) (named_none name (entries_of s) e.apart)

pub version_stands : (name s : List ℕ) (number at from to : ℕ) (p : VersionsAhead s at)
    → version_in name number (entries_of s) ≡ version_numbered number p.versions → NumberedAt at number p.versions from to
    → VersionStands name number s (from + number_field) to
version_stands name s number at from to p e d = record {
  version = d.version;
  there = e ∙ ap (version_numbered number) d.split ∙ numbered_split number d.before d.version d.after d.apart d.same;
  settings = settings_stand s at number from to p d;
}
