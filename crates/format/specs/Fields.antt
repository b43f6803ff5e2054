-- The fields of a file: paper 01, "The file". A reading is of a list of bytes, from a place on.
use Rattle.std.specs.Prelude.{ℕ, ◌+◌, ◌*◌, Bool, true, List, [], ◌∷◌, length, get_or, ltb, leb}
use Rattle.words.specs.Choice.{pick, both}
use Rattle.words.specs.Parts.{region}
use Rattle.faults.specs.declared.Fault.TheVariants.{Truncated, BadCount, BadName, BadRate, BadIndex}
use Rattle.format.specs.declared.Width.{Width}
use Rattle.format.specs.declared.Width.TheVariants.{Short, Long}
use Rattle.format.specs.Read.{Read, got, bad, checked}

-- "Truncation comes before a field's own fault": a field of so many bytes that is not whole
abbrev pub whole : {A : Type 0} → ℕ → List ℕ → ℕ → A → Read A
whole size s at value = pick (leb (at + size) (length s)) (got value (at + size)) (bad Truncated at)

-- "Big endian, packed." "Integers are signed": a number is kept as its pattern, so that the signed bits of 2 ^ 31 and above are a negative one.
abbrev pub int8 : List ℕ → ℕ → Read ℕ
int8 s at = whole 1 s at (get_or s at 0)

abbrev pub half : List ℕ → ℕ → ℕ
half s at = 256 * get_or s at 0 + get_or s (at + 1) 0

abbrev pub int16 : List ℕ → ℕ → Read ℕ
int16 s at = whole 2 s at (half s at)

abbrev pub word : List ℕ → ℕ → ℕ
word s at = 16777216 * get_or s at 0 + 65536 * get_or s (at + 1) 0 + 256 * get_or s (at + 2) 0 + get_or s (at + 3) 0

abbrev pub int32 : List ℕ → ℕ → Read ℕ
int32 s at = whole 4 s at (word s at)

-- "Floats may be any 32 bits and are kept bit for bit": a float is its pattern.
abbrev pub float32 : List ℕ → ℕ → Read ℕ
float32 s at = int32 s at

-- "0 to 255 bytes, each from 1 to 127"
unfoldable pub name_bytes : List ℕ → Bool
name_bytes [] = true
name_bytes (b ∷ bs) = both (both (leb 1 b) (leb b 127)) (name_bytes bs)

-- the bytes of a pstring, behind the one that is their number
abbrev pub string_at : List ℕ → ℕ → List ℕ
string_at s at = region (at + 1) (get_or s at 0) s

-- a pstring, of bytes of any kind: cut anywhere, it is refused at its first byte
abbrev pub pstring : List ℕ → ℕ → Read (List ℕ)
pstring s at = pick (ltb at (length s)) (whole (1 + get_or s at 0) s at (string_at s at)) (bad Truncated at)

-- "Every pstring is a name"
abbrev pub name : List ℕ → ℕ → Read (List ℕ)
name s at = checked BadName name_bytes at (pstring s at)

-- "a definition name isn't empty (H)"
abbrev pub definition_name : List ℕ → ℕ → Read (List ℕ)
definition_name s at = checked BadName (λ n. both (ltb 0 (length n)) (name_bytes n)) at (pstring s at)

-- the highest number that is not negative, of four bytes and of two
abbrev pub highest32 : ℕ
highest32 = 2147483647

abbrev pub highest16 : ℕ
highest16 = 32767

-- the highest count that a field of a width holds
abbrev pub highest_of : Width → ℕ
highest_of Short = highest16
highest_of Long = highest32

-- Paper 02, 4/14: "int16 for K, P, N, U, the parameter index, I, O and both input indices": the field of a count or an index takes two bytes in
-- version 1 and four in version 2
abbrev pub size_of : Width → ℕ
size_of Short = 2
size_of Long = 4

-- "-1 staying -1": a negative number of two bytes, as the pattern of the same number in four
abbrev pub extended : ℕ → ℕ
extended n = pick (leb n highest16) n (n + 4294901760)

abbrev pub value_by : Width → List ℕ → ℕ → ℕ
value_by Short s at = extended (half s at)
value_by Long s at = word s at

-- the field of a count or an index
abbrev pub integer_by : Width → List ℕ → ℕ → Read ℕ
integer_by w s at = whole (size_of w) s at (value_by w s at)

-- "every count at least 0; D and P at most 32": a count of at most so many
abbrev pub count_to_by : Width → ℕ → List ℕ → ℕ → Read ℕ
count_to_by w most s at = checked BadCount (λ n. leb n most) at (integer_by w s at)

abbrev pub count_by : Width → List ℕ → ℕ → Read ℕ
count_by w s at = count_to_by w highest32 s at

-- D and V have two bytes in both versions
abbrev pub short_count_to : ℕ → List ℕ → ℕ → Read ℕ
short_count_to most s at = checked BadCount (λ n. leb n most) at (int16 s at)

-- the calculation rates: scalar, control and audio as document 001 numbers them, and demand. Paper 02, 2/14: "the server also has demand rate,
-- numbered 3, and units and
-- outputs carry it. Allow 0 to 3 in both places; 7 is for the rest."
abbrev pub scalar_rate : ℕ
scalar_rate = 0

abbrev pub control_rate : ℕ
control_rate = 1

abbrev pub audio_rate : ℕ
audio_rate = 2

abbrev pub demand_rate : ℕ
demand_rate = 3

abbrev pub highest_rate : ℕ
highest_rate = demand_rate

abbrev pub rate : List ℕ → ℕ → Read ℕ
rate s at = checked BadRate (λ r. leb r highest_rate) at (int8 s at)

-- an index from 0 and below a bound. No bound exceeds a count, so none exceeds `highest32`, and a negative index is at or above each.
abbrev pub index_below_by : Width → ℕ → List ℕ → ℕ → Read ℕ
index_below_by w bound s at = checked BadIndex (λ i. ltb i bound) at (integer_by w s at)

-- the same fields in version 2
abbrev pub integer : List ℕ → ℕ → Read ℕ
integer s at = integer_by Long s at

abbrev pub count_to : ℕ → List ℕ → ℕ → Read ℕ
count_to most s at = count_to_by Long most s at

abbrev pub count : List ℕ → ℕ → Read ℕ
count s at = count_by Long s at

abbrev pub index_below : ℕ → List ℕ → ℕ → Read ℕ
index_below bound s at = index_below_by Long bound s at
