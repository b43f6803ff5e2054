-- Laws of `Ahead`.
use Rattle.std.specs.Prelude.{ℕ, ◌+◌, ◌≤◌, ◌<◌, ◌≡◌, refl, List, [], ◌∷◌, ◌++◌, length, take, drop, get_or}
use Rattle.std.proofs.Common.{sym, ap, ◌∙◌, append_assoc, arith, le-leb, eqb-true, length-append, length-drop, get_or-drop, drop-drop, drop_at, take_at}
use Rattle.std.proofs.lemmas.Bool.{lt-leb}
use Rattle.words.specs.Parts.{region}
use Rattle.tagged.specs.Fields.{Field, head_size, size_in, field_in, behind, write_field, write_fields}
use Rattle.tagged.specs.FieldsLaws.{size_limit, field_size, field-in, field_behind, field_length, fields_cons, fields_append}
use Rattle.store.specs.Store.{Setting, Version, Entry, setting_tag, version_tag}
use Rattle.store.specs.Writing.{setting_field, setting_fields, version_field, version_fields, fields_for}
use Rattle.store.specs.WritingLaws.{AreFields}
use Rattle.store.specs.Ahead.{FieldsAhead, leading}

pub first_byte : (s : List ℕ) (at : ℕ) → get_or (drop at s) 0 0 ≡ get_or s at 0
first_byte s at = get_or-drop at s 0 0 ∙ ap (λ (k : ℕ). get_or s k 0) (omega arith)

-- a field at a place, as the bytes there tell it, and those behind it
pub record FieldAhead (s : List ℕ) (at : ℕ) (f : Field) (fs : List Field) : Type 0 where
  pub opens : 0 < f.tag
  pub tag : get_or s at 0 ≡ f.tag
  pub size : size_in (drop at s) ≡ length f.contents
  pub inside : at + (head_size + size_in (drop at s)) ≤ length s
  pub field : field_in (drop at s) ≡ f
  pub next : FieldsAhead s (at + (head_size + size_in (drop at s))) fs

pub field_ahead : (s : List ℕ) (at : ℕ) (f : Field) (fs : List Field) → FieldsAhead s at (f ∷ fs) → FieldAhead s at f fs
unfolding AreFields
field_ahead s at f fs p =
    let t = write_fields fs ++ p.rest in
    let here : drop at s ≡ write_field f ++ (write_fields fs ++ p.rest) = p.split ∙ fields_cons f fs p.rest in
    let fits : length f.contents < size_limit = p.sized.0.1 in
    let size : size_in (drop at s) ≡ length f.contents = ap size_in here ∙ field_size f t fits in
    let room : length (drop at s) ≡ length (write_field f) + length t = ap length here ∙ length-append (write_field f) t in
    let ends : at + (head_size + size_in (drop at s)) ≤ length s = omega (arith, length-drop at s, field_length f, p.inside) in
    record {
      opens = p.sized.0.0;
      tag = sym (first_byte s at) ∙ ap (λ (l : List ℕ). get_or l 0 0) here;
      size = size;
      inside = ends;
      field = ap field_in here ∙ field-in f t fits;
      next = record {
        rest = p.rest;
        inside = ends;
        split = sym (drop-drop (head_size + size_in (drop at s)) at s) ∙ ap behind here ∙ field_behind f t fits;
        sized = p.sized.1;
        closed = p.closed;
      };
    }

-- where no field is left, there is no byte or a 0
pub none_ahead : (s : List ℕ) (at : ℕ) → FieldsAhead s at [] → get_or s at 0 ≡ 0
unfolding write_fields
none_ahead s at p = sym (first_byte s at) ∙ ap (λ (l : List ℕ). get_or l 0 0) p.split ∙ eqb-true (get_or p.rest 0 0) 0 p.closed

sized_behind : (a b : List Field) → AreFields (a ++ b) → AreFields b
unfolding AreFields
sized_behind [] b h = h
sized_behind (f ∷ a) b h = sized_behind a b h.1

-- fields behind others
pub ahead_behind : (s : List ℕ) (at : ℕ) (a b : List Field) → FieldsAhead s at (a ++ b) → FieldsAhead s (at + length (write_fields a)) b
ahead_behind s at a b p =
    let here : drop at s ≡ write_fields a ++ (write_fields b ++ p.rest) =
    p.split ∙ ap (λ (l : List ℕ). l ++ p.rest) (fields_append a b) ∙ append_assoc (write_fields a) (write_fields b) p.rest in
    let room : length (drop at s) ≡ length (write_fields a) + length (write_fields b ++ p.rest) =
    ap length here ∙ length-append (write_fields a) (write_fields b ++ p.rest) in
    record {
      rest = p.rest;
      inside = omega (arith, length-drop at s, p.inside);
      split =
          sym (drop-drop (length (write_fields a)) at s)
          ∙ ap (λ (l : List ℕ). drop (length (write_fields a)) l) here
          ∙ drop_at (write_fields a) (write_fields b ++ p.rest) (length (write_fields a)) refl;
      sized = sized_behind a b p.sized;
      closed = p.closed;
    }

-- the bytes of the first ones
pub ahead_front : (s : List ℕ) (at : ℕ) (a b : List Field) → FieldsAhead s at (a ++ b) → region at (length (write_fields a)) s ≡ write_fields a
ahead_front s at a b p =
    ap (take (length (write_fields a)))
    (p.split ∙ ap (λ (l : List ℕ). l ++ p.rest) (fields_append a b) ∙ append_assoc (write_fields a) (write_fields b) p.rest)
    ∙ take_at (write_fields a) (write_fields b ++ p.rest) (length (write_fields a)) refl

-- a walk over fields of a lowest tag or above: what is left of it from a place on
pub record Walked (lowest : ℕ) (s : List ℕ) (at : ℕ) (fs : List Field) (end : ℕ) : Type 0 where
  pub left : List Field
  pub ahead : FieldsAhead s end left
  pub ends : end + length (write_fields (leading lowest left)) ≡ at + length (write_fields (leading lowest fs))

pub walk_starts : (lowest : ℕ) (s : List ℕ) (at : ℕ) (fs : List Field) → FieldsAhead s at fs → Walked lowest s at fs at
walk_starts lowest s at fs p = record { left = fs; ahead = p; ends = refl }

pub walk_turn : (lowest : ℕ) (s : List ℕ) (at : ℕ) (fs : List Field) (end : ℕ) → 0 < lowest → lowest ≤ get_or s end 0
    → Walked lowest s at fs end → Walked lowest s at fs (end + (head_size + size_in (drop end s)))
unfolding leading write_fields
walk_turn lowest s at fs end opens h w = go w.left w.ahead w.ends where
  go : (left : List Field) → FieldsAhead s end left → end + length (write_fields (leading lowest left)) ≡ at + length (write_fields (leading lowest fs))
      → Walked lowest s at fs (end + (head_size + size_in (drop end s)))
  go [] p e = absurd (omega (arith, none_ahead s end p))
  go (f ∷ left) p e =
      let a = field_ahead s end f left p in
      let taken : leading lowest (f ∷ left) ≡ f ∷ leading lowest left = rw (le-leb lowest f.tag (omega (arith, a.tag))) in
      let size : length (write_fields (leading lowest (f ∷ left))) ≡ head_size + length f.contents + length (write_fields (leading lowest left)) =
      ap (λ (gs : List Field). length (write_fields gs)) taken ∙ length-append (write_field f) (write_fields (leading lowest left)) ∙ omega (arith, field_length f) in
      record { left = left; ahead = a.next; ends = omega (arith, a.size) }

pub walk_ends : (lowest : ℕ) (s : List ℕ) (at : ℕ) (fs : List Field) (end : ℕ) → get_or s end 0 < lowest → Walked lowest s at fs end
    → end ≡ at + length (write_fields (leading lowest fs))
unfolding leading write_fields
walk_ends lowest s at fs end low w = go w.left w.ahead w.ends where
  go : (left : List Field) → FieldsAhead s end left → end + length (write_fields (leading lowest left)) ≡ at + length (write_fields (leading lowest fs))
      → end ≡ at + length (write_fields (leading lowest fs))
  go [] p e = omega arith
  go (f ∷ left) p e =
      let a = field_ahead s end f left p in
      let stops : leading lowest (f ∷ left) ≡ [] = rw (lt-leb lowest f.tag (omega (arith, a.tag))) in
      omega (arith, ap (λ (gs : List Field). length (write_fields gs)) stops)

-- a place with room for the field at which a walk goes on
pub walk_inside : (lowest : ℕ) (s : List ℕ) (at : ℕ) (fs : List Field) (end : ℕ) → 0 < get_or s end 0 → Walked lowest s at fs end
    → end + (head_size + size_in (drop end s)) ≤ length s
walk_inside lowest s at fs end h w = go w.left w.ahead where
  go : (left : List Field) → FieldsAhead s end left → end + (head_size + size_in (drop end s)) ≤ length s
  go [] p = absurd (omega (arith, none_ahead s end p))
  go (f ∷ left) p = (field_ahead s end f left p).inside

-- the settings behind a version, and the versions behind a highest one
pub leading_settings : (cs : List Setting) (vs : List Version) (es : List Entry)
    → leading setting_tag (setting_fields cs ++ (version_fields vs ++ fields_for es)) ≡ setting_fields cs
unfolding leading setting_fields version_fields fields_for
leading_settings [] [] [] = refl
leading_settings [] [] (e ∷ es) = refl
leading_settings [] (v ∷ vs) es = refl
leading_settings (c ∷ cs) vs es = ap (λ (fs : List Field). setting_field c ∷ fs) (leading_settings cs vs es)

settings_lead : (cs : List Setting) (fs gs : List Field) → leading version_tag fs ≡ gs → leading version_tag (setting_fields cs ++ fs) ≡ setting_fields cs ++ gs
unfolding leading setting_fields
settings_lead [] fs gs e = e
settings_lead (c ∷ cs) fs gs e = ap (λ (fs : List Field). setting_field c ∷ fs) (settings_lead cs fs gs e)

pub leading_versions : (vs : List Version) (es : List Entry) → leading version_tag (version_fields vs ++ fields_for es) ≡ version_fields vs
unfolding leading version_fields fields_for
leading_versions [] [] = refl
leading_versions [] (e ∷ es) = refl
leading_versions (v ∷ vs) es =
    ap (λ (fs : List Field). version_field v.number ∷ fs)
    (ap (leading version_tag) (append_assoc (setting_fields v.settings) (version_fields vs) (fields_for es))
    ∙ settings_lead v.settings (version_fields vs ++ fields_for es) (version_fields vs) (leading_versions vs es))
