-- Reading a writing gives the entries back.
use Prim.{Unit, tt}
use Rattle.std.specs.Prelude.{ℕ, zero, suc, ◌-◌, ◌/◌, ◌%◌, ◌≤◌, ◌<◌, Bool, true, false, not, ◌≡◌, refl, List, [], ◌∷◌, ◌++◌, length, leb, eqb}
use Rattle.std.proofs.Common.{sym, ◌∙◌, append_assoc, arith, lt-ltb, le-leb, leb-true, ne_eqb, length-append, take_at, get_or-append-add}
use Rattle.std.proofs.Math.Path.{ap, ap₂}
use Rattle.std.proofs.Math.Seq.{get_or-append_seam}
use Rattle.words.specs.Choice.{pick, both, either}
use Rattle.words.specs.ChoiceLaws.{both_true}
use Rattle.words.specs.Bytes.{bytes32}
use Rattle.format.specs.Fields.{word, name_bytes}
use Rattle.roundtrip.specs.BigEndian.{four_of_bytes}
use Rattle.tagged.specs.Fields.{Field, is_cut, field_in, behind, write_field, write_fields}
use Rattle.tagged.specs.FieldsLaws.{size_limit, field_whole, field-in, field_behind, field_length}
use Rattle.store.specs.Store.{Setting, Version, Entry, closes, cut_field, fields_from, fields_of, setting_in, setting_name_in, settings_at, versions_at, entries_at, entries_of, in_place, is_name, longest_name, all_contents_formed, formed_by, entries_formed, store_formed}
use Rattle.store.specs.Writing.{setting_field, setting_fields, version_fields, fields_for, writing}
use Rattle.store.specs.Places.{AreSettings}
use Rattle.store.specs.Sizes.{AreVersions, AreEntries, word_limit}

-- fields as they stand in a store: no tag is 0, and two bytes hold each length
unfoldable pub AreFields : List Field → Type 0
AreFields [] = Unit {0}
AreFields (f ∷ fs) = ((0 < f.tag) × (length f.contents < size_limit)) × AreFields fs

pub are-append : (fs gs : List Field) → AreFields fs → AreFields gs → AreFields (fs ++ gs)
unfolding AreFields
are-append [] gs h l = l
are-append (f ∷ fs) gs h l = (h.0, are-append fs gs h.1 l)

neither : {A : Type 0} (a b : Bool) (x y z : A) → a ≡ false → b ≡ false → pick a x (pick b y z) ≡ z
neither a b x y z h l = rw (h, l)

-- a field that was written is read, and then what stands behind it
pub fields_turn : (n : ℕ) (f : Field) (t : List ℕ) → 0 < f.tag → length f.contents < size_limit
    → fields_from (suc n) (write_field f ++ t) ≡ f ∷ fields_from n t
unfolding fields_from
fields_turn n f t h fits =
    let s = write_field f ++ t in
    neither (closes s) (is_cut s) [] (cut_field ∷ []) (field_in s ∷ fields_from n (behind s)) (ne_eqb f.tag 0 (λ q. omega arith)) (field_whole f t fits)
    ∙ ap₂ (λ (g : Field) (r : List ℕ). g ∷ fields_from n r) (field-in f t fits) (field_behind f t fits)

-- fields that were written are read, with as many steps as there are fields or more
pub fields_read : (n : ℕ) (fs : List Field) (rest : List ℕ) → length fs ≤ n → AreFields fs → closes rest ≡ true → fields_from n (write_fields fs ++ rest) ≡ fs
unfolding AreFields fields_from write_fields
fields_read zero [] rest h a e = refl
fields_read (suc n) [] rest h a e = rw e
fields_read zero (f ∷ fs) rest h a e = absurd (omega arith)
fields_read (suc n) (f ∷ fs) rest h a e =
    ap (fields_from (suc n)) (append_assoc (write_field f) (write_fields fs) rest)
    ∙ fields_turn n f (write_fields fs ++ rest) a.0.0 a.0.1
    ∙ ap (λ (gs : List Field). f ∷ gs) (fields_read n fs rest (omega arith) a.1 e)

-- each field takes a byte or more
pub fields_few : (fs : List Field) → length fs ≤ length (write_fields fs)
unfolding write_fields
fields_few [] = omega arith
fields_few (f ∷ fs) = omega (arith, field_length f, length-append (write_field f) (write_fields fs), fields_few fs)

pub fields-of : (fs : List Field) (rest : List ℕ) → AreFields fs → closes rest ≡ true → fields_of (write_fields fs ++ rest) ≡ fs
fields-of fs rest a e =
    fields_read (length (write_fields fs ++ rest)) fs rest (omega (arith, fields_few fs, length-append (write_fields fs) rest)) a e

-- a number of four bytes, behind any others
pub word_back : (n : ℕ) → n < word_limit → word (bytes32 n) 0 ≡ n
word_back n h = four_of_bytes n h

pub word_behind : (p : List ℕ) (n : ℕ) → n < word_limit → word (p ++ bytes32 n) (length p) ≡ n
word_behind p n h =
    rw (
      get_or-append_seam p (n / 16777216 % 256) (n / 65536 % 256 ∷ (n / 256 % 256 ∷ (n % 256 ∷ []))) 0,
      get_or-append-add p (bytes32 n) 1 0,
      get_or-append-add p (bytes32 n) 2 0,
      get_or-append-add p (bytes32 n) 3 0,
    )
    (four_of_bytes n h)

-- a setting's field: its name, and its float
name_length : (p : List ℕ) (n : ℕ) → length (p ++ bytes32 n) - 4 ≡ length p
name_length p n = simp length-append (omega arith)

pub setting_name : (c : Setting) → setting_name_in (setting_field c) ≡ c.name
setting_name c = take_at c.name (bytes32 c.float) (length (c.name ++ bytes32 c.float) - 4) (sym (name_length c.name c.float))

pub setting_back : (c : Setting) → c.float < word_limit → setting_in (setting_field c) ≡ c
setting_back c h =
    ap₂ (λ (n : List ℕ) (x : ℕ). record { name = n; float = x }) (setting_name c)
    (ap (word (c.name ++ bytes32 c.float)) (name_length c.name c.float) ∙ word_behind c.name c.float h)

-- settings directly behind a version, before fields that are none
pub settings_back : (cs : List Setting) (fs : List Field) → AreSettings cs → settings_at fs ≡ [] → settings_at (setting_fields cs ++ fs) ≡ cs
unfolding AreSettings setting_fields settings_at
settings_back [] fs h e = e
settings_back (c ∷ cs) fs h e = ap₂ (λ (x : Setting) (xs : List Setting). x ∷ xs) (setting_back c h.1.0) (settings_back cs fs h.1.1 e)

-- versions are looked for past settings, and so are entries past settings and versions
pub versions_past : (cs : List Setting) (fs : List Field) → versions_at (setting_fields cs ++ fs) ≡ versions_at fs
unfolding setting_fields versions_at
versions_past [] fs = refl
versions_past (c ∷ cs) fs = versions_past cs fs

pub entries_past : (cs : List Setting) (fs : List Field) → entries_at (setting_fields cs ++ fs) ≡ entries_at fs
unfolding setting_fields entries_at
entries_past [] fs = refl
entries_past (c ∷ cs) fs = entries_past cs fs

pub entries_behind : (vs : List Version) (fs : List Field) → entries_at (version_fields vs ++ fs) ≡ entries_at fs
unfolding version_fields entries_at
entries_behind [] fs = refl
entries_behind (v ∷ vs) fs =
    ap entries_at (append_assoc (setting_fields v.settings) (version_fields vs) fs)
    ∙ entries_past v.settings (version_fields vs ++ fs)
    ∙ entries_behind vs fs

-- no setting stands directly before a version
none_set : (vs : List Version) (fs : List Field) → settings_at fs ≡ [] → settings_at (version_fields vs ++ fs) ≡ []
unfolding version_fields settings_at
none_set [] fs e = e
none_set (v ∷ vs) fs e = refl

pub versions_back : (vs : List Version) (fs : List Field) → AreVersions vs → settings_at fs ≡ [] → versions_at fs ≡ []
    → versions_at (version_fields vs ++ fs) ≡ vs
unfolding AreVersions version_fields versions_at
versions_back [] fs h e w = w
versions_back (v ∷ vs) fs h e w =
    let rest = version_fields vs ++ fs in
    let regroup = append_assoc (setting_fields v.settings) (version_fields vs) fs in
    ap₂ (λ (x : Version) (xs : List Version). x ∷ xs)
    (ap₂ (λ (n : ℕ) (cs : List Setting). record { number = n; settings = cs }) (word_back v.number h.0)
    (ap settings_at regroup ∙ settings_back v.settings (version_fields vs ++ fs) h.1.0 (none_set vs fs e)))
    (ap versions_at regroup ∙ versions_past v.settings (version_fields vs ++ fs) ∙ versions_back vs fs h.1.1 e w)

-- nothing of an entry stands before its name
no_settings : (es : List Entry) → settings_at (fields_for es) ≡ []
unfolding fields_for settings_at
no_settings [] = refl
no_settings (e ∷ es) = refl

no-versions : (es : List Entry) → versions_at (fields_for es) ≡ []
unfolding fields_for versions_at
no-versions [] = refl
no-versions (e ∷ es) = refl

pub entries_back : (es : List Entry) → AreEntries es → entries_at (fields_for es) ≡ es
unfolding AreEntries fields_for entries_at versions_at
entries_back [] h = refl
entries_back (e ∷ es) h =
    ap₂ (λ (x : Entry) (xs : List Entry). x ∷ xs)
    (ap₂ (λ (n : ℕ) (vs : List Version). record { name = e.name; highest = n; versions = vs }) (word_back e.highest h.0.highest)
    (versions_back e.versions (fields_for es) h.0.versions (no_settings es) (no-versions es)))
    (entries_behind e.versions (fields_for es) ∙ entries_back es h.1)

-- the fields of entries stand in place: settings behind a version or a setting,
settings_placed : (b : ℕ) (cs : List Setting) (fs : List Field) → 1 < b → either (eqb b 2) (eqb b 3) ≡ true
    → ((k : ℕ) → 1 < k → in_place k fs ≡ true) → in_place b (setting_fields cs ++ fs) ≡ true
unfolding setting_fields in_place
settings_placed b [] fs l h rest = rest b l
settings_placed b (c ∷ cs) fs l h rest = ap₂ both h (settings_placed 3 cs fs (omega arith) refl rest)

-- versions behind a highest version, a version or a setting,
versions_placed : (b : ℕ) (vs : List Version) (fs : List Field) → 1 < b
    → ((k : ℕ) → 1 < k → in_place k fs ≡ true) → in_place b (version_fields vs ++ fs) ≡ true
unfolding version_fields in_place
versions_placed b [] fs l rest = rest b l
versions_placed b (v ∷ vs) fs l rest =
    ap₂ both (lt-ltb 1 b l)
    (ap (in_place 2) (append_assoc (setting_fields v.settings) (version_fields vs) fs)
    ∙ settings_placed 2 v.settings (version_fields vs ++ fs) (omega arith) refl (λ k j. versions_placed k vs fs j rest))

-- and names behind anything but a name
pub entries_placed : (b : ℕ) (es : List Entry) → (b ≡ 1 → ⊥) → in_place b (fields_for es) ≡ true
unfolding fields_for in_place
entries_placed b [] h = ap not (ne_eqb b 1 h)
entries_placed b (e ∷ es) h =
    ap₂ both (ap not (ne_eqb b 1 h))
    (versions_placed 4 e.versions (fields_for es) (omega arith) (λ k l. entries_placed k es (λ q. omega arith)))

-- their contents are formed, and they are fields of a store
pub name_short : (n : List ℕ) → is_name n ≡ true → length n ≤ longest_name
name_short n h = leb-true (length n) longest_name (both_true (leb (length n) longest_name) (name_bytes n) h).0

settings_formed : (cs : List Setting) (fs : List Field) → AreSettings cs → all_contents_formed fs ≡ true → all_contents_formed (setting_fields cs ++ fs) ≡ true
unfolding AreSettings setting_fields all_contents_formed
settings_formed [] fs h e = e
settings_formed (c ∷ cs) fs h e =
    ap₂ both
    (ap₂ both (le-leb 4 (length (c.name ++ bytes32 c.float)) (simp length-append (omega arith))) (ap is_name (setting_name c) ∙ h.0))
    (settings_formed cs fs h.1.1 e)

versions_formed : (vs : List Version) (fs : List Field) → AreVersions vs → all_contents_formed fs ≡ true → all_contents_formed (version_fields vs ++ fs) ≡ true
unfolding AreVersions version_fields all_contents_formed
versions_formed [] fs h e = e
versions_formed (v ∷ vs) fs h e =
    ap all_contents_formed (append_assoc (setting_fields v.settings) (version_fields vs) fs)
    ∙ settings_formed v.settings (version_fields vs ++ fs) h.1.0 (versions_formed vs fs h.1.1 e)

pub contents-formed : (es : List Entry) → AreEntries es → all_contents_formed (fields_for es) ≡ true
unfolding AreEntries fields_for all_contents_formed
contents-formed [] h = refl
contents-formed (e ∷ es) h =
    ap₂ both (ap₂ both (lt-ltb 0 (length e.name) h.0.full) h.0.named)
    (versions_formed e.versions (fields_for es) h.0.versions (contents-formed es h.1))

pub setting-fields : (cs : List Setting) → AreSettings cs → AreFields (setting_fields cs)
unfolding AreSettings setting_fields AreFields
setting-fields [] h = tt
setting-fields (c ∷ cs) h =
    let short = name_short c.name h.0 in
    ((omega arith, simp length-append (omega arith)), setting-fields cs h.1.1)

pub version-fields : (vs : List Version) → AreVersions vs → AreFields (version_fields vs)
unfolding AreVersions version_fields AreFields
version-fields [] h = tt
version-fields (v ∷ vs) h =
    ((omega arith, omega arith), are-append (setting_fields v.settings) (version_fields vs) (setting-fields v.settings h.1.0) (version-fields vs h.1.1))

pub entry-fields : (es : List Entry) → AreEntries es → AreFields (fields_for es)
unfolding AreEntries fields_for AreFields
entry-fields [] h = tt
entry-fields (e ∷ es) h =
    let short = name_short e.name h.0.named in (
      (omega arith, omega arith),
      ((omega arith, omega arith), are-append (version_fields e.versions) (fields_for es) (version-fields e.versions h.0.versions) (entry-fields es h.1)),
    )

-- a writing, closed: it is read as the entries, and it is formed
module _ (es : List Entry) (rest : List ℕ) (sized : AreEntries es) (closed : closes rest ≡ true) where
  pub fields_written : fields_of (writing es ++ rest) ≡ fields_for es
  fields_written = fields-of (fields_for es) rest (entry-fields es sized) closed

  pub reading_written : entries_of (writing es ++ rest) ≡ es
  reading_written = ap entries_at fields_written ∙ entries_back es sized

  pub written_formed : entries_formed es ≡ true → store_formed (writing es ++ rest) ≡ true
  unfolding store_formed
  written_formed formed =
      ap formed_by fields_written
      ∙ ap₂ both (entries_placed 0 es (λ q. omega arith))
      (ap₂ both (contents-formed es sized) (ap entries_formed (entries_back es sized) ∙ formed))
