-- Where the next tag and the next argument of a reply go, and how far arguments move them.
use Rattle.std.specs.Prelude.{ℕ, ◌+◌, ◌≡◌, refl, List, [], ◌∷◌, ◌++◌, length}
use Rattle.std.proofs.Common.{ap, ◌∙◌, append-nil, length-append}
use Rattle.words.specs.Bytes.{bytes32}
use Rattle.osc.specs.Message.{Argument, int, tag_of, argument_bytes, tags, arguments}
use Rattle.osc.specs.Lengths.{arguments_append}
use Rattle.treequery.specs.declared.piece.Piece.{Piece}
use Rattle.treequery.specs.declared.places.Places.{Places}
use Rattle.treequery.specs.Pieces.{piece_argument, piece_bytes}

-- where counting starts
abbrev pub nowhere : Places
nowhere = record { tag = 0; byte = 0 }

-- the places behind some arguments
pub record Moved (p : Places) (l : List Argument) (next : Places) : Type 0 where
  pub tag : next.tag ≡ p.tag + length l
  pub byte : next.byte ≡ p.byte + length (arguments l)

-- bounds that add up: an argument has at most so many bytes, and all rows at most so many arguments
abbrev pub most_argument : ℕ
most_argument = 65540

abbrev pub most_tags : ℕ
most_tags = 17408

pub sizes : (l a b : List Argument) → l ≡ a ++ b → (length l ≡ length a + length b) × (length (arguments l) ≡ length (arguments a) + length (arguments b))
sizes l a b e = (
  ap (length {A = Argument}) e ∙ length-append a b,
  ap (λ (m : List Argument). length (arguments m)) e ∙ ap (length {A = ℕ}) (arguments_append a b) ∙ length-append (arguments a) (arguments b),
)

pub none-left : (l : List Argument) → l ≡ [] → (length l ≡ 0) × (length (arguments l) ≡ 0)
unfolding arguments
none-left l e = (ap (length {A = Argument}) e, ap (λ (m : List Argument). length (arguments m)) e)

-- one argument, and two integers
pub one_bytes : (a : Argument) → arguments (a ∷ []) ≡ argument_bytes a
unfolding arguments
one_bytes a = append-nil (argument_bytes a)

pub one_tag : (a : Argument) → tags (a ∷ []) ≡ tag_of a ∷ []
unfolding tags
one_tag a = refl

pub pair_bytes : (m n : ℕ) → arguments (int m ∷ (int n ∷ [])) ≡ bytes32 m ++ bytes32 n
unfolding arguments
pair_bytes m n = refl

pub pair_tags : (m n : ℕ) → tags (int m ∷ (int n ∷ [])) ≡ 105 ∷ (105 ∷ [])
unfolding tags
pair_tags m n = refl

pub pair_size : (m n : ℕ) → length (arguments (int m ∷ (int n ∷ []))) ≡ 8
pair_size m n = ap (length {A = ℕ}) (pair_bytes m n)

pub piece_bytes_size : (s : List ℕ) (piece : Piece) → length (arguments (piece_argument s piece ∷ [])) ≡ length (piece_bytes s piece)
piece_bytes_size s piece = ap (length {A = ℕ}) (one_bytes (piece_argument s piece))
