-- A number of a message is that of a file.
use Rattle.std.specs.Prelude.{ℕ, ◌+◌, ◌≤◌, ◌<◌, ◌≡◌, refl, Bool, true, false, List, length, leb}
use Rattle.std.proofs.Common.{ap, ◌∙◌}
use Rattle.words.specs.Choice.{pick}
use Rattle.words.specs.Bytes.{bytes32}
use Rattle.faults.specs.declared.Fault.TheVariants.{Truncated}
use Rattle.format.specs.Read.{Read, got, bad}
use Rattle.format.specs.Fields.{word, int32}
use Rattle.roundtrip.specs.FieldsBack.{int32_reads}
use Rattle.roundtrip.specs.FieldsForth.{int32_sound}
use Rattle.roundtrip.specs.Sound as files
use Rattle.messages.specs.Form.{Parse, parsed, faulty, number_at}
use Rattle.messagelaws.specs.Codec.{Reads}
use Rattle.messagelaws.specs.Sound.{Sound, taken, refused}

-- a reading whose fault has no place
abbrev plain : Read ℕ → Parse ℕ
plain (got x next) = parsed x next
plain (bad r p) = faulty

number_plain : (s : List ℕ) (at : ℕ) → number_at s at ≡ plain (int32 s at)
number_plain s at = by (leb (at + 4) (length s))
  where
    by : (b : Bool) → pick b (parsed (word s at) (at + 4)) faulty ≡ plain (pick b (got (word s at) (at + 4)) (bad Truncated at))
    by true = refl
    by false = refl

pub number_reads : (n : ℕ) → n < 4294967296 → Reads number_at n (bytes32 n)
number_reads n small = record { found = λ s at h. number_plain s at ∙ ap plain ((int32_reads n small).found s at h) }

plain_sound : {s : List ℕ} {at : ℕ} {write : ℕ → List ℕ} {Q : ℕ → Type 0} {r : Read ℕ} → files.Sound s at write Q r → Sound s at write Q (plain r)
plain_sound (files.taken x next c) = taken x next c
plain_sound (files.refused r p h) = refused

pub number_sound : (s : List ℕ) (at : ℕ) → at ≤ length s → Sound s at bytes32 (λ n. n < 4294967296) (number_at s at)
number_sound s at h = rw (number_plain s at) (plain_sound (int32_sound s at h))
