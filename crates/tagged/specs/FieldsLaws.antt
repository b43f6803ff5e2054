-- Laws of `Fields`.
use Rattle.std.specs.Prelude.{ℕ, ◌+◌, ◌*◌, ◌/◌, ◌%◌, ◌≤◌, ◌<◌, false, ◌≡◌, refl, List, [], ◌∷◌, ◌++◌, length, take, drop}
use Rattle.std.proofs.Common.{sym, ap, ap₂, ◌∙◌, append_assoc, arith, le-ltb, ltb-false, length-append, length-take, length-drop, take-append-drop, take_at, drop_at, drop-drop, get_or-drop, length-take-le}
use Rattle.words.specs.Bytes.{AreBytes, bytes16}
use Rattle.tagged.specs.Fields.{Field, head_size, size_in, is_cut, field_in, behind, write_field, write_fields}

-- lengths that two bytes hold
abbrev pub size_limit : ℕ
size_limit = 65536

pub field_length : (f : Field) → length (write_field f) ≡ head_size + length f.contents
field_length f = omega arith

-- a field that was written, and bytes behind it: what is read there
module _ (f : Field) (t : List ℕ) (fits : length f.contents < size_limit) where
  pub field_size : size_in (write_field f ++ t) ≡ length f.contents
  field_size = omega arith

  pub field_whole : is_cut (write_field f ++ t) ≡ false
  field_whole =
      let size : size_in (write_field f ++ t) ≡ length f.contents = field_size in
      le-ltb (length (write_field f ++ t)) (head_size + size_in (write_field f ++ t)) (omega (arith, length-append f.contents t))

  pub field-in : field_in (write_field f ++ t) ≡ f
  field-in = ap (λ (b : List ℕ). record { tag = f.tag; contents = b }) (take_at f.contents t (size_in (write_field f ++ t)) (sym field_size))

  pub field_behind : behind (write_field f ++ t) ≡ t
  field_behind =
      sym (drop-drop (size_in (write_field f ++ t)) head_size (write_field f ++ t))
      ∙ drop_at f.contents t (size_in (write_field f ++ t)) (sym field_size)

-- a length that two bytes tell, as these bytes
two_bytes : (a b : ℕ) → a < 256 → b < 256 → bytes16 (256 * a + b) ≡ a ∷ (b ∷ [])
two_bytes a b h l =
    let high : (256 * a + b) / 256 % 256 ≡ a = omega arith in
    let low : (256 * a + b) % 256 ≡ b = omega arith in
    rw (high, low)

-- bytes that begin with a whole field: that field as it is written, and the bytes behind it
pub field_back : (s : List ℕ) → AreBytes s → is_cut s ≡ false → write_field (field_in s) ++ behind s ≡ s
field_back s h e = go s h (ltb-false (length s) (head_size + size_in s) e) where
  go : (s : List ℕ) → AreBytes s → head_size + size_in s ≤ length s → write_field (field_in s) ++ behind s ≡ s
  go [] h e = absurd (omega arith)
  go (a ∷ []) h e = absurd (omega arith)
  go (a ∷ (b ∷ [])) h e = absurd (omega arith)
  go (a ∷ (b ∷ (c ∷ u))) h e =
      let size : length (take (256 * b + c) u) ≡ 256 * b + c = length-take-le (256 * b + c) u (omega arith) in
      let past : drop (head_size + (256 * b + c)) (a ∷ (b ∷ (c ∷ u))) ≡ drop (256 * b + c) u =
      sym (drop-drop (256 * b + c) head_size (a ∷ (b ∷ (c ∷ u)))) in
      ap₂ (λ (p q : List ℕ). a ∷ (p ++ q)) (ap bytes16 size ∙ two_bytes b c (h 1) (h 2))
      (ap (λ (l : List ℕ). take (256 * b + c) u ++ l) past ∙ take-append-drop (256 * b + c) u)

-- how much is left behind a field
pub behind_length : (s : List ℕ) → is_cut s ≡ false → length s ≡ head_size + size_in s + length (behind s)
behind_length s e =
    let whole : head_size + size_in s ≤ length s = ltb-false (length s) (head_size + size_in s) e in
    simp length-drop (omega arith)

pub bytes_behind : (s : List ℕ) (k : ℕ) → AreBytes s → AreBytes (drop k s)
bytes_behind s k h i = rw get_or-drop (h (k + i))

-- the field that the bytes begin with has as many bytes as its head tells
pub field_in_length : (s : List ℕ) → is_cut s ≡ false → length (field_in s).contents ≡ size_in s
field_in_length s e =
    let whole : head_size + size_in s ≤ length s = ltb-false (length s) (head_size + size_in s) e in
    simp (length-take, length-drop) (omega arith)

-- fields one after the other
pub fields_append : (a b : List Field) → write_fields (a ++ b) ≡ write_fields a ++ write_fields b
unfolding write_fields
fields_append [] b = refl
fields_append (f ∷ fs) b = ap (λ (l : List ℕ). write_field f ++ l) (fields_append fs b) ∙ sym (append_assoc (write_field f) (write_fields fs) (write_fields b))

pub fields_cons : (f : Field) (fs : List Field) (t : List ℕ) → write_fields (f ∷ fs) ++ t ≡ write_field f ++ (write_fields fs ++ t)
unfolding write_fields
fields_cons f fs t = append_assoc (write_field f) (write_fields fs) t

pub fields_none : write_fields [] ≡ []
unfolding write_fields
fields_none = refl
