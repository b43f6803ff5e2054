-- What the edits of a store's bytes leave, as lists: a gap opened behind an entry's versions, an entry put at the end, a run taken out.
use Rattle.std.specs.Prelude.{ℕ, ◌+◌, ◌-◌, List, ◌++◌, length, take, drop, replicate}
use Rattle.std.proofs.Math.Seq.{paste}
use Rattle.words.specs.Parts.{over}
use Rattle.words.specs.Bytes.{bytes32}
use Rattle.tagged.specs.Fields.{Field}

-- a field that holds a number, and how many bytes it has
abbrev pub number_field_of : ℕ → ℕ → Field
number_field_of tag number = record { tag = tag; contents = bytes32 number }

abbrev pub number_field : ℕ
number_field = 7

-- zeros from a place on
abbrev pub zeroed_from : ℕ → List ℕ → List ℕ
zeroed_from at s = take at s ++ replicate (length s - at) 0

-- a version put in behind an entry's versions: the highest version written at its place, what lies from the end of the versions up to the end of the
-- contents moved up by a field and so many bytes more, the version's field before them, and zeros behind
abbrev pub version_put : ℕ → ℕ → ℕ → ℕ → List ℕ → List ℕ → List ℕ → List ℕ
version_put head end contents size high new s =
    zeroed_from (contents + (number_field + size))
    (over end new (over head high (paste s (end + (number_field + size)) (drop end s) (contents - end))))

-- an entry put at the end of the contents, with its first version
abbrev pub entry_put : ℕ → ℕ → List ℕ → List ℕ → List ℕ → List ℕ → List ℕ
entry_put at size name high new s =
    zeroed_from (at + (length name + (number_field + (number_field + size))))
    (over (at + (length name + number_field)) new (over (at + length name) high (over at name s)))

-- a run taken out of the contents
abbrev pub run_cut : ℕ → ℕ → ℕ → List ℕ → List ℕ
run_cut from to contents s = zeroed_from (from + (contents - to)) (paste s from (drop to s) (contents - to))
