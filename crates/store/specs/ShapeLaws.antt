-- Fields that are in place, with contents that are formed, are the fields of the entries that are read of them.
use Prim.{Unit, tt}
use Rattle.std.specs.Prelude.{ℕ, ◌+◌, ◌-◌, ◌≤◌, ◌<◌, Bool, true, false, not, ◌≡◌, refl, List, [], ◌∷◌, ◌++◌, length, take, drop, ltb, leb, eqb}
use Rattle.std.proofs.Common.{sym, ap, ap₂, ◌∙◌, append_assoc, arith, eqb-true, leb-true, ltb-true, length-drop, take-append-drop, get_or-drop}
use Rattle.std.proofs.lemmas.Bool.{eqb-false, not-true}
use Rattle.words.specs.Choice.{pick, either}
use Rattle.words.specs.ChoiceLaws.{both_true}
use Rattle.words.specs.Bytes.{AreBytes, bytes32}
use Rattle.format.specs.Fields.{word}
use Rattle.roundtrip.specs.BigEndian.{bytes_of_four}
use Rattle.tagged.specs.Fields.{Field}
use Rattle.tagged.specs.FieldsLaws.{bytes_behind}
use Rattle.store.specs.Store.{Setting, Version, name_tag, version_tag, setting_tag, highest_tag, number_in, setting_in, setting_name_in, settings_at, versions_at, highest_at, entries_at, in_place, may_follow, is_name, contents_formed, all_contents_formed}
use Rattle.store.specs.Writing.{setting_fields, highest_field, version_fields, fields_for}
use Rattle.store.specs.Places.{AreSettings}
use Rattle.store.specs.Sizes.{AreVersions, EntrySized, AreEntries, word_limit}

-- fields with bytes as their contents
unfoldable pub AreByteFields : List Field → Type 0
AreByteFields [] = Unit {0}
AreByteFields (f ∷ fs) = AreBytes f.contents × AreByteFields fs

-- four bytes are a number of 32 bits, and back
pub word_small : (s : List ℕ) (at : ℕ) → AreBytes s → word s at < word_limit
word_small s at h = omega (arith, h at, h (at + 1), h (at + 2), h (at + 3))

pub word_forth : (s : List ℕ) → AreBytes s → length s ≡ 4 → bytes32 (word s 0) ≡ s
word_forth [] h e = absurd (omega arith)
word_forth (a ∷ []) h e = absurd (omega arith)
word_forth (a ∷ (b ∷ [])) h e = absurd (omega arith)
word_forth (a ∷ (b ∷ (c ∷ []))) h e = absurd (omega arith)
word_forth (a ∷ (b ∷ (c ∷ (d ∷ [])))) h e = bytes_of_four a b c d (h 0) (h 1) (h 2) (h 3)
word_forth (a ∷ (b ∷ (c ∷ (d ∷ (x ∷ s))))) h e = absurd (omega arith)

word_from : (s : List ℕ) (k : ℕ) → word s k ≡ word (drop k s) 0
word_from s k =
    let here : k + 0 ≡ k = omega arith in
    rw (get_or-drop k s 0 0, get_or-drop k s 1 0, get_or-drop k s 2 0, get_or-drop k s 3 0, here)

pub setting_forth : (s : List ℕ) → AreBytes s → 4 ≤ length s → take (length s - 4) s ++ bytes32 (word s (length s - 4)) ≡ s
setting_forth s h l =
    let back : bytes32 (word (drop (length s - 4) s) 0) ≡ drop (length s - 4) s =
    word_forth (drop (length s - 4) s) (bytes_behind s (length s - 4) h) (simp length-drop (omega arith)) in
    ap (λ (l : List ℕ). take (length s - 4) s ++ l) (ap bytes32 (word_from s (length s - 4)) ∙ back) ∙ take-append-drop (length s - 4) s

-- which tag may stand behind which
data Follow (t b : ℕ) : Type 0 where
  a-name : t ≡ name_tag → (b ≡ name_tag → ⊥) → Follow t b
  a_highest : t ≡ highest_tag → b ≡ name_tag → Follow t b
  a_version : t ≡ version_tag → 1 < b → Follow t b
  a-setting : t ≡ setting_tag → 1 < b → b < highest_tag → Follow t b

follow : (t b : ℕ) → may_follow t b ≡ true → Follow t b
follow t b h = go (eqb t name_tag) (eqb t highest_tag) (eqb t version_tag) (eqb t setting_tag) refl refl refl refl h where
  set : (x : Bool) → eqb b version_tag ≡ x → pick x true (eqb b setting_tag) ≡ true → (1 < b) × (b < highest_tag)
  set true e h = (omega (arith, eqb-true b version_tag e), omega (arith, eqb-true b version_tag e))
  set false e h = (omega (arith, eqb-true b setting_tag h), omega (arith, eqb-true b setting_tag h))

  go : (x y z w : Bool) → eqb t name_tag ≡ x → eqb t highest_tag ≡ y → eqb t version_tag ≡ z → eqb t setting_tag ≡ w
      → pick x (not (eqb b name_tag)) (pick y (eqb b name_tag) (pick z (ltb name_tag b) (pick w (either (eqb b version_tag) (eqb b setting_tag)) false))) ≡ true
      → Follow t b
  go true y z w e f g i h = a-name (eqb-true t name_tag e) (eqb-false b name_tag (not-true (eqb b name_tag) h))
  go false true z w e f g i h = a_highest (eqb-true t highest_tag f) (eqb-true b name_tag h)
  go false false true w e f g i h = a_version (eqb-true t version_tag g) (ltb-true name_tag b h)
  go false false false true e f g i h =
      let near = set (eqb b version_tag) refl h in
      a-setting (eqb-true t setting_tag i) near.0 near.1
  go false false false false e f g i h = absurd (let z : ◌≡◌ {A = ℕ} 0 1 = cc in omega arith)

-- fields in place are those of the settings, the versions and the entries that are read of them
abbrev Forth : List Field → Type 0
Forth fs = fs ≡ setting_fields (settings_at fs) ++ (version_fields (versions_at fs) ++ fields_for (entries_at fs))

by_tag : (f : Field) (t : ℕ) → f.tag ≡ t → f ≡ record { tag = t; contents = f.contents }
by_tag f t e = ap (λ (k : ℕ). record { tag = k; contents = f.contents }) e

forth_setting : (k : List ℕ) (fs : List Field) → take (length k - 4) k ++ bytes32 (word k (length k - 4)) ≡ k → Forth fs
    → Forth (record { tag = setting_tag; contents = k } ∷ fs)
unfolding setting_fields settings_at versions_at entries_at
forth_setting k fs e more = ap₂ (λ (l : List ℕ) (gs : List Field). record { tag = setting_tag; contents = l } ∷ gs) (sym e) more

forth_version : (k : List ℕ) (fs : List Field) → bytes32 (word k 0) ≡ k → Forth fs → Forth (record { tag = version_tag; contents = k } ∷ fs)
unfolding setting_fields settings_at version_fields versions_at entries_at
forth_version k fs e more =
    ap₂ (λ (l : List ℕ) (gs : List Field). record { tag = version_tag; contents = l } ∷ gs) (sym e)
    (more ∙ sym (append_assoc (setting_fields (settings_at fs)) (version_fields (versions_at fs)) (fields_for (entries_at fs))))

-- behind a name: its highest version comes first
abbrev ForthBehindName : List Field → Type 0
ForthBehindName fs = fs ≡ highest_field (highest_at fs) ∷ (version_fields (versions_at fs) ++ fields_for (entries_at fs))

forth_highest : (k : List ℕ) (fs : List Field) → bytes32 (word k 0) ≡ k → settings_at fs ≡ [] → Forth fs
    → ForthBehindName (record { tag = highest_tag; contents = k } ∷ fs)
unfolding setting_fields settings_at versions_at entries_at
forth_highest k fs e none more =
    ap₂ (λ (l : List ℕ) (gs : List Field). record { tag = highest_tag; contents = l } ∷ gs) (sym e)
    (more ∙ ap (λ (cs : List Setting). setting_fields cs ++ (version_fields (versions_at fs) ++ fields_for (entries_at fs))) none)

forth_name : (n : List ℕ) (fs : List Field) → ForthBehindName fs → Forth (record { tag = name_tag; contents = n } ∷ fs)
unfolding setting_fields settings_at version_fields versions_at entries_at fields_for
forth_name n fs more = ap (λ (gs : List Field). record { tag = name_tag; contents = n } ∷ gs) more

-- no setting stands behind a highest version, nor first
no_setting : (b : ℕ) (fs : List Field) → (1 < b → b < highest_tag → ⊥) → in_place b fs ≡ true → settings_at fs ≡ []
unfolding in_place settings_at
no_setting b [] h placed = refl
no_setting b (f ∷ fs) h placed = go (follow f.tag b (both_true (may_follow f.tag b) (in_place f.tag fs) placed).0) where
  go : Follow f.tag b → settings_at (f ∷ fs) ≡ []
  go (a-name e l) = rw e
  go (a_highest e l) = rw e
  go (a_version e l) = rw e
  go (a-setting e l m) = absurd (h l m)

no_version : (fs : List Field) → in_place 0 fs ≡ true → versions_at fs ≡ []
unfolding in_place versions_at
no_version [] placed = refl
no_version (f ∷ fs) placed = go (follow f.tag 0 (both_true (may_follow f.tag 0) (in_place f.tag fs) placed).0) where
  go : Follow f.tag 0 → versions_at (f ∷ fs) ≡ []
  go (a-name e l) = rw e
  go (a_highest e l) = absurd (omega arith)
  go (a_version e l) = absurd (omega arith)
  go (a-setting e l m) = absurd (omega arith)

-- what a field's contents are by its tag
module _ (f : Field) (formed : contents_formed f ≡ true) where
  name_contents : f.tag ≡ name_tag → (0 < length f.contents) × (is_name f.contents ≡ true)
  name_contents e =
      let w = both_true (ltb 0 (length f.contents)) (is_name f.contents) (rw e at formed) in
      (ltb-true 0 (length f.contents) w.0, w.1)

  setting_contents : f.tag ≡ setting_tag → (4 ≤ length f.contents) × (is_name (setting_name_in f) ≡ true)
  setting_contents e =
      let w = both_true (leb 4 (length f.contents)) (is_name (setting_name_in f)) (rw e at formed) in
      (leb-true 4 (length f.contents) w.0, w.1)

  version_contents : f.tag ≡ version_tag → length f.contents ≡ 4
  version_contents e = eqb-true (length f.contents) 4 (rw e at formed)

  highest_contents : f.tag ≡ highest_tag → length f.contents ≡ 4
  highest_contents e = eqb-true (length f.contents) 4 (rw e at formed)

-- fields behind a tag that are in place, with contents that are formed, and bytes
pub record FieldsFormed (b : ℕ) (fs : List Field) : Type 0 where
  pub placed : in_place b fs ≡ true
  pub formed : all_contents_formed fs ≡ true
  pub bytes : AreByteFields fs

pub record FirstFormed (b : ℕ) (f : Field) (fs : List Field) : Type 0 where
  pub placed : may_follow f.tag b ≡ true
  pub formed : contents_formed f ≡ true
  pub bytes : AreBytes f.contents
  pub more : FieldsFormed f.tag fs

pub first_formed : (b : ℕ) (f : Field) (fs : List Field) → FieldsFormed b (f ∷ fs) → FirstFormed b f fs
unfolding in_place all_contents_formed AreByteFields
first_formed b f fs r =
    let p = both_true (may_follow f.tag b) (in_place f.tag fs) r.placed in
    let q = both_true (contents_formed f) (all_contents_formed fs) r.formed in
    record {
      placed = p.0;
      formed = q.0;
      bytes = r.bytes.0;
      more = record { placed = p.1; formed = q.1; bytes = r.bytes.1 };
    }

record Forths (b : ℕ) (fs : List Field) : Type 0 where
  named : b ≡ name_tag → ForthBehindName fs
  other : (b ≡ name_tag → ⊥) → Forth fs

module _ (b : ℕ) (f : Field) (fs : List Field) (r : FirstFormed b f fs) (next : Forths f.tag fs) where
  as_field : (t : ℕ) → f.tag ≡ t → (P : List Field → Type 0) → P (record { tag = t; contents = f.contents } ∷ fs) → P (f ∷ fs)
  as_field t e P h = rw (by_tag f t e) h

  forth_turn : Follow f.tag b → Forths b (f ∷ fs)
  forth_turn (a-name e l) = record {
    named = λ q. absurd (l q);
    other = λ q. as_field name_tag e Forth (forth_name f.contents fs (next.named e));
  }
  forth_turn (a_highest e l) = record {
    named = λ q. as_field highest_tag e ForthBehindName
        (forth_highest f.contents fs (word_forth f.contents r.bytes (highest_contents f r.formed e))
        (no_setting f.tag fs (λ m n. omega arith) r.more.placed) (next.other (λ m. omega arith)));
    other = λ q. absurd (q l);
  }
  forth_turn (a_version e l) = record {
    named = λ q. absurd (omega arith);
    other = λ q. as_field version_tag e Forth
        (forth_version f.contents fs (word_forth f.contents r.bytes (version_contents f r.formed e)) (next.other (λ m. omega arith)));
  }
  forth_turn (a-setting e l m) = record {
    named = λ q. absurd (omega arith);
    other = λ q. as_field setting_tag e Forth
        (forth_setting f.contents fs (setting_forth f.contents r.bytes (setting_contents f r.formed e).0) (next.other (λ m. omega arith)));
  }

forths : (b : ℕ) (fs : List Field) → FieldsFormed b fs → Forths b fs
unfolding in_place setting_fields settings_at version_fields versions_at entries_at fields_for
forths b [] r = record { named = λ q. absurd (no q r.placed); other = λ q. refl } where
  no : b ≡ name_tag → not (eqb b name_tag) ≡ true → ⊥
  no q h = eqb-false b name_tag (not-true (eqb b name_tag) h) q
forths b (f ∷ fs) r =
    let first = first_formed b f fs r in
    forth_turn b f fs first (forths f.tag fs first.more) (follow f.tag b first.placed)

pub entries_forth : (fs : List Field) → FieldsFormed 0 fs → fs ≡ fields_for (entries_at fs)
unfolding setting_fields version_fields
entries_forth fs r =
    (forths 0 fs r).other (λ q. omega arith)
    ∙ ap₂ (λ (cs : List Setting) (vs : List Version). setting_fields cs ++ (version_fields vs ++ fields_for (entries_at fs)))
    (no_setting 0 fs (λ l m. omega arith) r.placed) (no_version fs r.placed)

-- names that are names, and numbers and floats of 32 bits
settings_sized : (b : ℕ) (fs : List Field) → FieldsFormed b fs → AreSettings (settings_at fs)
unfolding settings_at AreSettings
settings_sized b [] r = tt
settings_sized b (f ∷ fs) r =
    let first = first_formed b f fs r in
    go first (settings_sized f.tag fs first.more) (eqb f.tag setting_tag) refl
  where
    go : FirstFormed b f fs → AreSettings (settings_at fs) → (t : Bool) → eqb f.tag setting_tag ≡ t → AreSettings (pick t (setting_in f ∷ settings_at fs) [])
    go r more true e =
        ((setting_contents f r.formed (eqb-true f.tag setting_tag e)).1, (word_small f.contents (length f.contents - 4) r.bytes, more))
    go r more false e = tt

versions_sized : (b : ℕ) (fs : List Field) → FieldsFormed b fs → AreVersions (versions_at fs)
unfolding versions_at AreVersions
versions_sized b [] r = tt
versions_sized b (f ∷ fs) r =
    let first = first_formed b f fs r in
    go first (versions_sized f.tag fs first.more) (eqb f.tag name_tag) (eqb f.tag version_tag)
  where
    go : FirstFormed b f fs → AreVersions (versions_at fs) → (t u : Bool)
        → AreVersions (pick t [] (pick u (record { number = number_in f; settings = settings_at fs } ∷ versions_at fs) (versions_at fs)))
    go r more true u = tt
    go r more false true = (word_small f.contents 0 r.bytes, (settings_sized f.tag fs r.more, more))
    go r more false false = more

highest_small : (b : ℕ) (fs : List Field) → FieldsFormed b fs → highest_at fs < word_limit
highest_small b [] r = omega arith
highest_small b (f ∷ fs) r = word_small f.contents 0 (first_formed b f fs r).bytes

pub entries_sized : (b : ℕ) (fs : List Field) → FieldsFormed b fs → AreEntries (entries_at fs)
unfolding entries_at AreEntries
entries_sized b [] r = tt
entries_sized b (f ∷ fs) r =
    let first = first_formed b f fs r in
    go first (entries_sized f.tag fs first.more) (eqb f.tag name_tag) refl
  where
    go : FirstFormed b f fs → AreEntries (entries_at fs) → (t : Bool) → eqb f.tag name_tag ≡ t
        → AreEntries (pick t (record { name = f.contents; highest = highest_at fs; versions = versions_at fs } ∷ entries_at fs) (entries_at fs))
    go r more true e =
        let name = name_contents f r.formed (eqb-true f.tag name_tag e) in
        let sized : EntrySized (record { name = f.contents; highest = highest_at fs; versions = versions_at fs }) = record {
          full = name.0;
          named = name.1;
          highest = highest_small f.tag fs r.more;
          versions = versions_sized f.tag fs r.more;
        } in
        (sized, more)
    go r more false e = more
