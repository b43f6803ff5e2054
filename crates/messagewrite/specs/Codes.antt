-- A slot's argument: its size, and whether it has room.
use Rattle.std.specs.Prelude.{ℕ, ◌+◌, ◌-◌, ◌%◌, ◌≤◌, ◌<◌, Bool, true, false, ◌≡◌, refl, List, ◌++◌, length, replicate, leb, eqb, Option, Some, None}
use Rattle.std.proofs.Common.{ap, ◌∙◌, arith, length-append}
use borrow.Author.Tests.{le-leb, lt-leb, leb-true, leb-false}
use Rattle.std.proofs.lemmas.List.{length-replicate}
use Rattle.words.specs.Choice.{pick}
use Rattle.words.specs.Bytes.{bytes32}
use Rattle.osc.specs.Message.{float, int, padded_blob, argument_bytes}
use Rattle.osc.specs.Lengths.{padded_size}
use Rattle.calls.specs.declared.Numbers.{Numbers}
use Rattle.messages.specs.declared.Slot.{Slot}
use Rattle.messages.specs.declared.Slot.TheVariants.{NumberA, NumberB, NumberC, Value, Name, File}
use Rattle.messages.specs.Table.{Given, give}

abbrev pub given : Numbers → List ℕ → Given
given numbers bytes = record { numbers = numbers; bytes = bytes }

-- the size of an argument, beside a name or a file of so many bytes
abbrev pub size_by : Slot → ℕ → ℕ
size_by NumberA size = 4
size_by NumberB size = 4
size_by NumberC size = 4
size_by Value size = 4
size_by Name size = size + (4 - size % 4)
size_by File size = 4 + (size + (4 - size % 4) % 4)

pub blob_size : (s : List ℕ) → length (padded_blob s) ≡ 4 + (length s + (4 - length s % 4) % 4)
blob_size s =
    let e : length (s ++ replicate ((4 - length s % 4) % 4) 0) ≡ length s + (4 - length s % 4) % 4 =
    length-append s (replicate ((4 - length s % 4) % 4) 0) ∙ ap (λ (k : ℕ). length s + k) (length-replicate ((4 - length s % 4) % 4) 0) in
    omega arith

-- a value's bytes are those of its number, whatever its kind
pub value_bytes : (g : Given) → argument_bytes (give Value g) ≡ bytes32 g.numbers.e
value_bytes g = by (eqb g.numbers.d 0)
  where
    by : (f : Bool) → argument_bytes (pick f (float g.numbers.e) (int g.numbers.e)) ≡ bytes32 g.numbers.e
    by true = refl
    by false = refl

pub size-by : (slot : Slot) (g : Given) → length (argument_bytes (give slot g)) ≡ size_by slot (length g.bytes)
size-by NumberA g = refl
size-by NumberB g = refl
size-by NumberC g = refl
size-by Value g = ap (length {A = ℕ}) (value_bytes g)
size-by Name g = padded_size g.bytes
size-by File g = blob_size g.bytes

-- a size that has room
abbrev pub fitting : ℕ → ℕ → Option ℕ
fitting size room = pick (leb size room) (Some size) None

pub fits : (size room : ℕ) → size ≤ room → fitting size room ≡ Some size
fits size room h = rw (le-leb size room h)

pub exceeds : (size room : ℕ) → room < size → fitting size room ≡ None
exceeds size room h = rw (lt-leb size room h)

-- what each answer tells
pub fitting_none : (size room : ℕ) → fitting size room ≡ None → room < size
fitting_none size room e = go (leb size room) refl e
  where
    go : (t : Bool) → leb size room ≡ t → pick t (Some size) None ≡ None → room < size
    go true h z = cc
    go false h z = leb-false size room h

pub fitting_some : (size room n : ℕ) → fitting size room ≡ Some n → (size ≡ n) × (size ≤ room)
fitting_some size room n e = go (leb size room) refl e
  where
    go : (t : Bool) → leb size room ≡ t → pick t (Some size) None ≡ Some n → (size ≡ n) × (size ≤ room)
    go true h z = (cc, leb-true size room h)
    go false h z = cc
