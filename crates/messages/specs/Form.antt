-- The form of a message: paper 02, 1/14, with the types and the padding of document 004. A reading is of the message's bytes, from a place on; a
-- fault of form has no place.
use Rattle.std.specs.Prelude.{ℕ, suc, ◌+◌, ◌-◌, ◌%◌, Bool, true, List, [], ◌∷◌, length, drop, get_or, leb, eqb}
use Rattle.words.specs.Choice.{pick, both}
use Rattle.words.specs.Parts.{region}
use Rattle.format.specs.Fields.{word, name_bytes, highest32}
use Rattle.osc.specs.Message.{Argument, int, float, text, blob}

-- what was read and the place past it, or a fault of form
pub data Parse (A : Type 0) : Type 0 where
  parsed : A → ℕ → Parse A
  faulty : Parse A

module _ {A B : Type 0} where
  -- a reading that goes on where the first one ends
  abbrev pub and_then : Parse A → (A → ℕ → Parse B) → Parse B
  and_then (parsed x next) more = more x next
  and_then faulty more = faulty

  abbrev pub map_parse : (A → B) → Parse A → Parse B
  map_parse keep (parsed x next) = parsed (keep x) next
  map_parse keep faulty = faulty

-- the bytes before the first zero
unfoldable pub text_length : List ℕ → ℕ
text_length [] = 0
text_length (b ∷ bs) = pick (eqb b 0) 0 (suc (text_length bs))

unfoldable pub zeros : List ℕ → Bool
zeros [] = true
zeros (b ∷ bs) = both (eqb b 0) (zeros bs)

-- n bytes from a place on and the zeros behind them, pad of them
abbrev pub padded_at : ℕ → ℕ → (List ℕ → Bool) → List ℕ → ℕ → Parse (List ℕ)
padded_at n pad fits s at =
    pick (leb (at + (n + pad)) (length s))
    (pick (both (fits (region at n s)) (zeros (region (at + n) pad s))) (parsed (region at n s) (at + (n + pad))) faulty)
    faulty

-- a string: "Strings hold bytes 1 to 127", and "strings end in one to four zeros" (paper 01)
abbrev pub string_at : List ℕ → ℕ → Parse (List ℕ)
string_at s at = padded_at (text_length (drop at s)) (4 - text_length (drop at s) % 4) name_bytes s at

-- "int - a 32 bit integer", "float - a 32 bit floating point number": a number is its pattern
abbrev pub number_at : List ℕ → ℕ → Parse ℕ
number_at s at = pick (leb (at + 4) (length s)) (parsed (word s at) (at + 4)) faulty

-- "bytes - a buffer of data preceeded by a 32 bit length field and padded to a multiple of 4 bytes": the length is not negative
abbrev pub blob_at : List ℕ → ℕ → Parse (List ℕ)
blob_at s at = and_then (number_at s at) (λ n next. pick (leb n highest32) (padded_at n ((4 - n % 4) % 4) (λ bytes. true) s next) faulty)

-- an argument by its tag: i, f, s, b; "with a tag other than these" is malformed
abbrev pub argument_at : ℕ → List ℕ → ℕ → Parse Argument
argument_at tag s at =
    pick (eqb tag 105) (map_parse int (number_at s at))
    (pick (eqb tag 102) (map_parse float (number_at s at))
    (pick (eqb tag 115) (map_parse text (string_at s at))
    (pick (eqb tag 98) (map_parse blob (blob_at s at)) faulty)))

unfoldable pub arguments_at : List ℕ → List ℕ → ℕ → Parse (List Argument)
arguments_at [] s at = parsed [] at
arguments_at (tag ∷ tags) s at = and_then (argument_at tag s at) (λ x next. and_then (arguments_at tags s next) (λ xs end. parsed (x ∷ xs) end))

pub record Message : Type 0 where
  pub address : List ℕ
  pub arguments : List Argument

-- a string that begins with a byte
abbrev pub headed : ℕ → Parse (List ℕ) → Parse (List ℕ)
headed byte read = and_then read (λ l next. pick (eqb (get_or l 0 0) byte) (parsed l next) faulty)

-- "padded address, tag string, arguments": an address begins with its "/" and tags with their comma, and no bytes are left over
unfoldable pub read_message : List ℕ → Parse Message
read_message s =
    and_then (headed 47 (string_at s 0)) (λ address next.
    and_then (headed 44 (string_at s next)) (λ tags start.
    and_then (arguments_at (drop 1 tags) s start) (λ args end.
    pick (eqb end (length s)) (parsed (record { address = address; arguments = args }) end) faulty)))
