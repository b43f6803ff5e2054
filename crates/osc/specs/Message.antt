-- An OSC message: paper 01, "Replies": "Whole OSC messages from the buffer's first byte: padded address, padded tag string, arguments; strings end
-- in one to four zeros."
use Rattle.std.specs.Prelude.{ℕ, ◌+◌, ◌-◌, ◌/◌, ◌%◌, List, [], ◌∷◌, ◌++◌, length, replicate, ltb}
use Rattle.words.specs.Choice.{pick}
use Rattle.words.specs.Bytes.{bytes32}

-- int32, float32 (its pattern), string, blob (bytes of any kind)
pub data Argument : Type 0 where
  int : ℕ → Argument
  float : ℕ → Argument
  text : List ℕ → Argument
  blob : List ℕ → Argument

-- the tag of an argument: i, f, s, b
abbrev pub tag_of : Argument → ℕ
tag_of (int n) = 105
tag_of (float p) = 102
tag_of (text s) = 115
tag_of (blob s) = 98

-- "strings end in one to four zeros", so that their length is a multiple of four
abbrev pub padded : List ℕ → List ℕ
padded s = s ++ replicate (4 - length s % 4) 0

-- a blob's bytes behind their number, and none to three zeros: "preceeded by a 32 bit length field and padded to a multiple of 4 bytes" (document
-- 004)
abbrev pub padded_blob : List ℕ → List ℕ
padded_blob s = bytes32 (length s) ++ (s ++ replicate ((4 - length s % 4) % 4) 0)

abbrev pub argument_bytes : Argument → List ℕ
argument_bytes (int n) = bytes32 n
argument_bytes (float p) = bytes32 p
argument_bytes (text s) = padded s
argument_bytes (blob s) = padded_blob s

unfoldable pub tags : List Argument → List ℕ
tags [] = []
tags (a ∷ more) = tag_of a ∷ tags more

unfoldable pub arguments : List Argument → List ℕ
arguments [] = []
arguments (a ∷ more) = argument_bytes a ++ arguments more

-- the tag string starts with a comma
abbrev pub message : List ℕ → List Argument → List ℕ
message address args = padded address ++ (padded (44 ∷ tags args) ++ arguments args)

-- a number below 10,000 in decimal digits
abbrev pub decimal : ℕ → List ℕ
decimal n =
    pick (ltb n 10) ((48 + n) ∷ [])
    (pick (ltb n 100) ((48 + n / 10) ∷ ((48 + n % 10) ∷ []))
    (pick (ltb n 1000) ((48 + n / 100) ∷ ((48 + n / 10 % 10) ∷ ((48 + n % 10) ∷ [])))
    ((48 + n / 1000) ∷ ((48 + n / 100 % 10) ∷ ((48 + n / 10 % 10) ∷ ((48 + n % 10) ∷ []))))))
