-- The call that is taken from arguments: its op, its kind of value, and its bytes.
use Rattle.std.specs.Prelude.{ℕ, ◌≤◌, ◌<◌, ◌≡◌, refl, Bool, true, false, List, [], ◌∷◌, eqb}
use Rattle.std.proofs.Common.{◌∙◌, arith}
use Rattle.words.specs.Choice.{pick, either}
use Rattle.osc.specs.Message.{Argument, int, float, text, blob, tag_of}
use Rattle.messages.specs.declared.Slot.{Slot}
use Rattle.messages.specs.declared.Slot.TheVariants.{NumberA, NumberB, NumberC, Value, Name, File}
use Rattle.messages.specs.Table.{Given, Words, number_in, take, give, take_all, give_all}
use Rattle.messagelaws.specs.Arguments.{Well, AllWell}

pub taken_op : (slots : List Slot) (xs : List Argument) (g : Given) → (take_all slots xs g).numbers.op ≡ g.numbers.op
unfolding take_all
taken_op [] xs g = refl
taken_op (slot ∷ slots) [] g = refl
taken_op (slot ∷ slots) (x ∷ xs) g = taken_op slots xs (take slot x g) ∙ one slot
  where
    one : (k : Slot) → (take k x g).numbers.op ≡ g.numbers.op
    one NumberA = refl
    one NumberB = refl
    one NumberC = refl
    one Value = refl
    one Name = refl
    one File = refl

-- the kind of a value is 0 or 1
pub taken_kind : (slots : List Slot) (xs : List Argument) (g : Given) → g.numbers.d ≤ 1 → (take_all slots xs g).numbers.d ≤ 1
unfolding take_all
taken_kind [] xs g h = h
taken_kind (slot ∷ slots) [] g h = h
taken_kind (slot ∷ slots) (x ∷ xs) g h = taken_kind slots xs (take slot x g) (one slot)
  where
    kind : (b : Bool) → pick b 0 1 ≤ 1
    kind true = omega arith
    kind false = omega arith

    one : (k : Slot) → (take k x g).numbers.d ≤ 1
    one NumberA = h
    one NumberB = h
    one NumberC = h
    one Value = kind (eqb (tag_of x) 102)
    one Name = h
    one File = h

-- the numbers are of 32 bits where those of the arguments are
number_small : (x : Argument) → Well x → number_in x < 4294967296
number_small (int n) h = h
number_small (float p) h = h
number_small (text s) h = omega arith
number_small (blob s) h = omega arith

take_words : (slot : Slot) (x : Argument) (g : Given) → Well x → Words g.numbers → Words (take slot x g).numbers
take_words NumberA x g h w = record { op = w.op; a = number_small x h; b = w.b; c = w.c; d = w.d; e = w.e }
take_words NumberB x g h w = record { op = w.op; a = w.a; b = number_small x h; c = w.c; d = w.d; e = w.e }
take_words NumberC x g h w = record { op = w.op; a = w.a; b = w.b; c = number_small x h; d = w.d; e = w.e }
take_words Value x g h w = record { op = w.op; a = w.a; b = w.b; c = w.c; d = by (eqb (tag_of x) 102); e = number_small x h }
  where
    by : (b : Bool) → pick b 0 1 < 4294967296
    by true = omega arith
    by false = omega arith
take_words Name x g h w = w
take_words File x g h w = w

pub taken_words : (slots : List Slot) (xs : List Argument) (g : Given) → AllWell xs → Words g.numbers → Words (take_all slots xs g).numbers
unfolding take_all AllWell
taken_words [] xs g h w = w
taken_words (slot ∷ slots) [] g h w = w
taken_words (slot ∷ slots) (x ∷ xs) g h w = taken_words slots xs (take slot x g) h.1 (take_words slot x g h.0 w)

-- whether a name or a file is beside the command
abbrev pub besides : Slot → Bool
besides NumberA = false
besides NumberB = false
besides NumberC = false
besides Value = false
besides Name = true
besides File = true

unfoldable pub beside : List Slot → Bool
beside [] = false
beside (slot ∷ slots) = either (besides slot) (beside slots)

pick_same : (b : Bool) (l : List ℕ) → pick b l l ≡ l
pick_same true l = refl
pick_same false l = refl

pub taken_bytes : (slots : List Slot) (g h : Given) → (take_all slots (give_all slots g) h).bytes ≡ pick (beside slots) g.bytes h.bytes
unfolding take_all give_all beside
taken_bytes [] g h = refl
taken_bytes (NumberA ∷ slots) g h = taken_bytes slots g (take NumberA (give NumberA g) h)
taken_bytes (NumberB ∷ slots) g h = taken_bytes slots g (take NumberB (give NumberB g) h)
taken_bytes (NumberC ∷ slots) g h = taken_bytes slots g (take NumberC (give NumberC g) h)
taken_bytes (Value ∷ slots) g h = taken_bytes slots g (take Value (give Value g) h)
taken_bytes (Name ∷ slots) g h = taken_bytes slots g (take Name (give Name g) h) ∙ pick_same (beside slots) g.bytes
taken_bytes (File ∷ slots) g h = taken_bytes slots g (take File (give File g) h) ∙ pick_same (beside slots) g.bytes
