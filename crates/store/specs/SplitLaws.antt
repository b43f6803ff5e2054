-- Entries around the one of a name, and versions around the one of a number: their fields and bytes, and what a save and a drop make of them.
use Rattle.std.specs.Prelude.{ℕ, Bool, true, false, ◌≡◌, refl, List, [], ◌∷◌, ◌++◌, eqb}
use Rattle.std.proofs.Common.{sym, ap, ◌∙◌, append_assoc, eq-eqb}
use Rattle.std.proofs.Math.Option.{none, some}
use Rattle.words.specs.Choice.{pick}
use Rattle.words.specs.ChoiceLaws.{either_false}
use Rattle.format.specs.Reader.{same_name}
use Rattle.tagged.specs.Fields.{Field, write_field, write_fields}
use Rattle.tagged.specs.FieldsLaws.{fields_append}
use Rattle.store.specs.Store.{Setting, Version, Entry, has_entry}
use Rattle.store.specs.Writing.{setting_fields, version_field, version_fields, highest_field, name_field, entry_fields, fields_for, writing, entry_named, version_numbered, with_version, first_entry, saved, without, without_version, dropped}

-- fields and bytes of entries one after the other
pub entries_append : (es ds : List Entry) → fields_for (es ++ ds) ≡ fields_for es ++ fields_for ds
unfolding fields_for
entries_append [] ds = refl
entries_append (e ∷ es) ds =
    ap (λ (fs : List Field). entry_fields e ++ fs) (entries_append es ds) ∙ sym (append_assoc (entry_fields e) (fields_for es) (fields_for ds))

pub writing-append : (es ds : List Entry) → writing (es ++ ds) ≡ writing es ++ writing ds
writing-append es ds = ap write_fields (entries_append es ds) ∙ fields_append (fields_for es) (fields_for ds)

pub writing-cons : (e : Entry) (es : List Entry) → writing (e ∷ es) ≡ write_fields (entry_fields e) ++ writing es
unfolding fields_for
writing-cons e es = fields_append (entry_fields e) (fields_for es)

pub versions_append : (vs ws : List Version) → version_fields (vs ++ ws) ≡ version_fields vs ++ version_fields ws
unfolding version_fields
versions_append [] ws = refl
versions_append (v ∷ vs) ws =
    ap (λ (fs : List Field). version_field v.number ∷ fs)
    (ap (λ (fs : List Field). setting_fields v.settings ++ fs) (versions_append vs ws)
    ∙ sym (append_assoc (setting_fields v.settings) (version_fields vs) (version_fields ws)))

-- the bytes of an entry: its name, its highest version, its versions
abbrev pub versions_bytes : List Version → List ℕ
versions_bytes vs = write_fields (version_fields vs)

pub entry_bytes : (e : Entry)
    → write_fields (entry_fields e) ≡ write_field (name_field e.name) ++ (write_field (highest_field e.highest) ++ versions_bytes e.versions)
unfolding write_fields
entry_bytes e = refl

pub versions-bytes : (vs ws : List Version) → versions_bytes (vs ++ ws) ≡ versions_bytes vs ++ versions_bytes ws
versions-bytes vs ws = ap write_fields (versions_append vs ws) ∙ fields_append (version_fields vs) (version_fields ws)

pub version_bytes : (v : Version) (vs : List Version)
    → versions_bytes (v ∷ vs) ≡ write_field (version_field v.number) ++ (write_fields (setting_fields v.settings) ++ versions_bytes vs)
unfolding version_fields write_fields
version_bytes v vs = ap (λ (l : List ℕ). write_field (version_field v.number) ++ l) (fields_append (setting_fields v.settings) (version_fields vs))

-- the first entry of a name
pub named_split : (name : List ℕ) (before : List Entry) (e : Entry) (after : List Entry) → has_entry name before ≡ false → same_name e.name name ≡ true
    → entry_named name (before ++ (e ∷ after)) ≡ some e
unfolding has_entry entry_named
named_split name [] e after apart same = rw same
named_split name (x ∷ before) e after apart same =
    let f = either_false (same_name x.name name) (has_entry name before) apart in
    rw f.0 (named_split name before e after f.1 same)

pub named_none : (name : List ℕ) (es : List Entry) → has_entry name es ≡ false → entry_named name es ≡ none
unfolding has_entry entry_named
named_none name [] apart = refl
named_none name (x ∷ es) apart =
    let f = either_false (same_name x.name name) (has_entry name es) apart in
    rw f.0 (named_none name es f.1)

pub saved_split : (name : List ℕ) (cs : List Setting) (before : List Entry) (e : Entry) (after : List Entry)
    → has_entry name before ≡ false → same_name e.name name ≡ true
    → saved name cs (before ++ (e ∷ after)) ≡ before ++ (with_version cs e ∷ after)
unfolding has_entry saved
saved_split name cs [] e after apart same = rw same
saved_split name cs (x ∷ before) e after apart same =
    let f = either_false (same_name x.name name) (has_entry name before) apart in
    rw f.0 (ap (λ (es : List Entry). x ∷ es) (saved_split name cs before e after f.1 same))

pub saved_none : (name : List ℕ) (cs : List Setting) (es : List Entry) → has_entry name es ≡ false → saved name cs es ≡ es ++ (first_entry name cs ∷ [])
unfolding has_entry saved
saved_none name cs [] apart = refl
saved_none name cs (x ∷ es) apart =
    let f = either_false (same_name x.name name) (has_entry name es) apart in
    rw f.0 (ap (λ (l : List Entry). x ∷ l) (saved_none name cs es f.1))

pub dropped_split : (name : List ℕ) (number : ℕ) (before : List Entry) (e : Entry) (after : List Entry)
    → has_entry name before ≡ false → same_name e.name name ≡ true
    → dropped name number (before ++ (e ∷ after)) ≡ before ++ (without_version number e ∷ after)
unfolding has_entry dropped
dropped_split name number [] e after apart same = rw same
dropped_split name number (x ∷ before) e after apart same =
    let f = either_false (same_name x.name name) (has_entry name before) apart in
    rw f.0 (ap (λ (es : List Entry). x ∷ es) (dropped_split name number before e after f.1 same))

-- the first version of a number
pub numbered_split : (number : ℕ) (before : List Version) (v : Version) (after : List Version) → version_numbered number before ≡ none → v.number ≡ number
    → version_numbered number (before ++ (v ∷ after)) ≡ some v
unfolding version_numbered
numbered_split number [] v after apart same = rw (eq-eqb v.number number same)
numbered_split number (x ∷ before) v after apart same = go (eqb x.number number) apart (λ more. numbered_split number before v after more same)
  where
    go : (b : Bool) → pick b (some x) (version_numbered number before) ≡ none
        → (version_numbered number before ≡ none → version_numbered number (before ++ (v ∷ after)) ≡ some v)
        → pick b (some x) (version_numbered number (before ++ (v ∷ after))) ≡ some v
    go true h more = cc
    go false h more = more h

pub without_split : (number : ℕ) (before : List Version) (v : Version) (after : List Version) → version_numbered number before ≡ none → v.number ≡ number
    → without number (before ++ (v ∷ after)) ≡ before ++ after
unfolding version_numbered without
without_split number [] v after apart same = rw (eq-eqb v.number number same)
without_split number (x ∷ before) v after apart same = go (eqb x.number number) apart (λ more. without_split number before v after more same)
  where
    go : (b : Bool) → pick b (some x) (version_numbered number before) ≡ none
        → (version_numbered number before ≡ none → without number (before ++ (v ∷ after)) ≡ before ++ after)
        → pick b (before ++ (v ∷ after)) (x ∷ without number (before ++ (v ∷ after))) ≡ x ∷ (before ++ after)
    go true h more = cc
    go false h more = ap (λ (vs : List Version). x ∷ vs) (more h)
