-- Tagged fields. Paper 02, 8/14: "tagged fields: one-byte tag, two-byte big-endian length", and then so many bytes.
use Rattle.std.specs.Prelude.{ℕ, ◌+◌, ◌*◌, Bool, List, [], ◌∷◌, ◌++◌, length, drop, get_or, ltb}
use Rattle.words.specs.Parts.{region}
use Rattle.words.specs.Bytes.{bytes16}

pub record Field : Type 0 where
  pub tag : ℕ
  pub contents : List ℕ

-- the bytes of a field before its contents: the tag and the length
abbrev pub head_size : ℕ
head_size = 3

-- the length of the contents, as the head of the bytes tells it
abbrev pub size_in : List ℕ → ℕ
size_in s = 256 * get_or s 1 0 + get_or s 2 0

-- "a cut field": its head or its contents run past the last byte
abbrev pub is_cut : List ℕ → Bool
is_cut s = ltb (length s) (head_size + size_in s)

-- the field that the bytes begin with, and the bytes behind it
abbrev pub field_in : List ℕ → Field
field_in s = record { tag = get_or s 0 0; contents = region head_size (size_in s) s }

abbrev pub behind : List ℕ → List ℕ
behind s = drop (head_size + size_in s) s

-- a field as bytes, and fields one after the other
abbrev pub write_field : Field → List ℕ
write_field f = f.tag ∷ (bytes16 (length f.contents) ++ f.contents)

unfoldable pub write_fields : List Field → List ℕ
write_fields [] = []
write_fields (f ∷ fs) = write_field f ++ write_fields fs
