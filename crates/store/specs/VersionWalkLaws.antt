-- Laws of `Walk`: versions, one after the other.
use Rattle.std.specs.Prelude.{ℕ, ◌+◌, ◌≡◌, refl, List, [], ◌∷◌, ◌++◌, length, drop, get_or}
use Rattle.std.proofs.Common.{sym, ap, ◌∙◌, subst, append_assoc, append-nil, arith, ne_eqb, length-append, get_or-drop}
use Rattle.std.proofs.Math.Option.{none}
use Rattle.format.specs.Fields.{word}
use Rattle.tagged.specs.Fields.{Field, head_size, write_fields}
use Rattle.store.specs.Store.{Version, Entry, version_tag, setting_tag}
use Rattle.store.specs.Writing.{setting_fields, name_field, version_field, version_fields, fields_for, version_numbered}
use Rattle.store.specs.Sizes.{AreVersions}
use Rattle.store.specs.WritingLaws.{word_back}
use Rattle.store.specs.Edit.{number_field}
use Rattle.store.specs.VersionLaws.{numbered_behind}
use Rattle.store.specs.SplitLaws.{versions_bytes, versions-bytes}
use Rattle.store.specs.Ahead.{FieldsAhead, VersionsAhead, PastTags}
use Rattle.store.specs.AheadLaws.{none_ahead, field_ahead, ahead_behind, leading_settings, leading_versions}
use Rattle.store.specs.Walk.{VersionAhead, NumberedAt}

-- a number of four bytes behind a place
pub word-drop : (s : List ℕ) (at k : ℕ) → word s (at + k) ≡ word (drop at s) k
word-drop s at k =
    let byte : (j : ℕ) → get_or s (at + k + j) 0 ≡ get_or (drop at s) (k + j) 0 =
    λ j. ap (λ (i : ℕ). get_or s i 0) (omega arith) ∙ sym (get_or-drop at s (k + j) 0) in
    rw (byte 1, byte 2, byte 3, get_or-drop at s k 0)

pub version_length : (v : Version) → length (versions_bytes (v ∷ [])) ≡ number_field + length (write_fields (setting_fields v.settings))
unfolding version_fields write_fields
version_length v =
    let last : length (write_fields (setting_fields v.settings ++ [])) ≡ length (write_fields (setting_fields v.settings)) =
    ap (λ (fs : List Field). length (write_fields fs)) (append-nil (setting_fields v.settings)) in
    omega arith

-- the version that a field of its tag opens: its number, and the fields behind its own
pub record VersionOpens (s : List ℕ) (at : ℕ) (p : VersionsAhead s at) : Type 0 where
  pub version : Version
  pub more : List Version
  pub versions : p.versions ≡ version ∷ more
  pub sized : AreVersions more
  pub number : word s (at + head_size) ≡ version.number
  pub behind : FieldsAhead s (at + number_field) (setting_fields version.settings ++ (version_fields more ++ fields_for p.after))

no_version : (s : List ℕ) (at : ℕ) (es : List Entry) → FieldsAhead s at (fields_for es) → get_or s at 0 ≡ version_tag → ⊥
unfolding fields_for
no_version s at [] a tag = omega (arith, none_ahead s at a, tag)
no_version s at (e ∷ es) a tag = omega (arith, (field_ahead s at (name_field e.name) _ a).tag, tag)

pub version_opens : (s : List ℕ) (at : ℕ) (p : VersionsAhead s at) → get_or s at 0 ≡ version_tag → VersionOpens s at p
unfolding version_fields write_fields AreVersions
version_opens s at p tag = go p.versions refl p.ahead p.sized
  where
    go : (vs : List Version) → p.versions ≡ vs → FieldsAhead s at (version_fields vs ++ fields_for p.after) → AreVersions vs → VersionOpens s at p
    go [] e a sized = absurd (no_version s at p.after a tag)
    go (v ∷ vs) e a sized =
        let fs = setting_fields v.settings ++ (version_fields vs ++ fields_for p.after) in
        let group : version_fields (v ∷ vs) ++ fields_for p.after ≡ version_field v.number ∷ fs =
        ap (λ (gs : List Field). version_field v.number ∷ gs) (append_assoc (setting_fields v.settings) (version_fields vs) (fields_for p.after)) in
        let all : FieldsAhead s at (version_field v.number ∷ fs) = subst (λ (gs : List Field). FieldsAhead s at gs) group a in record {
          version = v;
          more = vs;
          versions = e;
          sized = sized.1.1;
          number = word-drop s at head_size ∙ ap (λ (l : List ℕ). word l head_size) all.split ∙ word_back v.number sized.0;
          behind = ahead_behind s at (version_field v.number ∷ []) fs all;
        }

-- a field of another tag opens none
pub versions_end : (s : List ℕ) (at : ℕ) (p : VersionsAhead s at) → (get_or s at 0 ≡ version_tag → ⊥) → p.versions ≡ []
unfolding version_fields
versions_end s at p other = go p.versions refl p.ahead
  where
    go : (vs : List Version) → p.versions ≡ vs → FieldsAhead s at (version_fields vs ++ fields_for p.after) → p.versions ≡ []
    go [] e a = e
    go (v ∷ vs) e a =
        absurd (other (field_ahead s at (version_field v.number) ((setting_fields v.settings ++ version_fields vs) ++ fields_for p.after) a).tag)

-- a step over a version, by a walk over its settings
pub version_past : (s : List ℕ) (at r : ℕ) (p : VersionsAhead s at) → get_or s at 0 ≡ version_tag → PastTags setting_tag s (at + number_field) r
    → VersionAhead s at p.versions r
version_past s at r p tag past =
    let o = version_opens s at p tag in
    let cs = setting_fields o.version.settings in
    let later = version_fields o.more ++ fields_for p.after in
    let far : r ≡ at + number_field + length (write_fields cs) =
    past (cs ++ later) o.behind
    ∙ ap (λ (fs : List Field). at + number_field + length (write_fields fs)) (leading_settings o.version.settings o.more p.after) in
    rw far (record {
      version = o.version;
      more = o.more;
      versions = o.versions;
      number = o.number;
      place = omega (arith, version_length o.version);
      rest = record { versions = o.more; after = p.after; ahead = ahead_behind s (at + number_field) cs later o.behind; sized = o.sized };
      later = refl;
    })

-- versions counted: those that were, and those that are left
pub record CountStands (s : List ℕ) (at : ℕ) (p : VersionsAhead s at) (i count : ℕ) : Type 0 where
  pub left : VersionsAhead s i
  pub sum : count + length left.versions ≡ length p.versions

pub count_turn : (s : List ℕ) (at : ℕ) (p : VersionsAhead s at) (i count next : ℕ) (w : CountStands s at p i count)
    → VersionAhead s i w.left.versions next → CountStands s at p next (count + 1)
count_turn s at p i count next w v =
    let one : length w.left.versions ≡ length v.more + 1 = ap length v.versions ∙ omega arith in
    let more : length v.rest.versions ≡ length v.more = ap length v.later in
    record { left = v.rest; sum = omega (arith, w.sum) }

pub count_ends : (s : List ℕ) (at : ℕ) (p : VersionsAhead s at) (i count : ℕ) → CountStands s at p i count → (get_or s i 0 ≡ version_tag → ⊥)
    → count ≡ length p.versions
count_ends s at p i count w other =
    let last : length w.left.versions ≡ 0 = ap length (versions_end s i w.left other) in
    omega (arith, w.sum)

-- a search for the version of a number: those that were passed have others
pub record SearchStands (s : List ℕ) (at number : ℕ) (p : VersionsAhead s at) (i : ℕ) : Type 0 where
  pub before : List Version
  pub left : VersionsAhead s i
  pub split : p.versions ≡ before ++ left.versions
  pub apart : version_numbered number before ≡ none
  pub place : i ≡ at + length (versions_bytes before)

pub search_starts : (s : List ℕ) (at number : ℕ) (p : VersionsAhead s at) → SearchStands s at number p at
unfolding version_numbered version_fields write_fields
search_starts s at number p = record { before = []; left = p; split = refl; apart = refl; place = omega arith }

none_behind : (number : ℕ) (vs : List Version) (v : Version) → version_numbered number vs ≡ none → (v.number ≡ number → ⊥)
    → version_numbered number (vs ++ (v ∷ [])) ≡ none
none_behind number vs v h other = numbered_behind number vs v h ∙ rw (ne_eqb v.number number other)

pub search_turn : (s : List ℕ) (at number : ℕ) (p : VersionsAhead s at) (i next : ℕ) (w : SearchStands s at number p i)
    → VersionAhead s i w.left.versions next → (word s (i + head_size) ≡ number → ⊥) → SearchStands s at number p next
search_turn s at number p i next w v other =
    let one = v.version ∷ [] in
    let long : length (versions_bytes (w.before ++ one)) ≡ length (versions_bytes w.before) + length (versions_bytes one) =
    ap length (versions-bytes w.before one) ∙ length-append (versions_bytes w.before) (versions_bytes one) in record {
      before = w.before ++ one;
      left = v.rest;
      split =
          w.split
          ∙ ap (λ (vs : List Version). w.before ++ vs) (v.versions ∙ ap (λ (vs : List Version). v.version ∷ vs) (sym v.later))
          ∙ sym (append_assoc w.before one v.rest.versions);
      apart = none_behind number w.before v.version w.apart (λ e. other (v.number ∙ e));
      place = omega (arith, w.place, v.place);
    }

pub search_found : (s : List ℕ) (at number : ℕ) (p : VersionsAhead s at) (i next : ℕ) (w : SearchStands s at number p i)
    → VersionAhead s i w.left.versions next → word s (i + head_size) ≡ number → NumberedAt at number p.versions i next
search_found s at number p i next w v same = record {
  before = w.before;
  version = v.version;
  after = v.more;
  split = w.split ∙ ap (λ (vs : List Version). w.before ++ vs) v.versions;
  apart = w.apart;
  same = sym v.number ∙ same;
  start = w.place;
  end = v.place;
}

pub search_ends : (s : List ℕ) (at number : ℕ) (p : VersionsAhead s at) (i : ℕ) → SearchStands s at number p i → (get_or s i 0 ≡ version_tag → ⊥)
    → version_numbered number p.versions ≡ none
search_ends s at number p i w other =
    ap (version_numbered number) (w.split ∙ ap (λ (vs : List Version). w.before ++ vs) (versions_end s i w.left other) ∙ append-nil w.before) ∙ w.apart

-- past all versions
pub versions_past : (s : List ℕ) (head end : ℕ) (p : VersionsAhead s (head + number_field)) → PastTags version_tag s (head + number_field) end
    → end ≡ head + (number_field + length (versions_bytes p.versions))
versions_past s head end p past =
    past (version_fields p.versions ++ fields_for p.after) p.ahead
    ∙ ap (λ (fs : List Field). head + number_field + length (write_fields fs)) (leading_versions p.versions p.after)
    ∙ omega arith
