-- What a command takes of its message's arguments, slot by slot.
use Rattle.std.specs.Prelude.{ℕ, ◌≡◌, List, Option, Some, None, slice_get}
use Rattle.osc.specs.Message as osc
use Rattle.messages.specs.Form.{Parse, parsed, and_then, argument_at, arguments_at}
use Rattle.messages.specs.declared.Slot.{Slot}
use Rattle.messages.specs.Table.{Given, take, take_all}
use Rattle.messageread.specs.declared.cursor.Cursor.{Cursor}
use Rattle.messageread.specs.declared.cursor.Part.{Part}
use Rattle.messageread.specs.declared.cursor.Argument.{Argument}
use Rattle.messageread.specs.declared.cursor.Argument.TheVariants.{Integer, Float, Text, Blob}
use Rattle.messageread.specs.declared.keep.Kept.{Kept}
use Rattle.messageread.specs.Answers.{read_of, IfRead, bytes_of, Inside, argument_in, Lies}

-- an argument by its parts, as code has them
abbrev pub number_of : Argument → ℕ
number_of (Integer n) = n
number_of (Float n) = n
number_of (Text p) = 0
number_of (Blob p) = 0

abbrev pub kind_of : Argument → ℕ
kind_of (Integer n) = 1
kind_of (Float n) = 0
kind_of (Text p) = 1
kind_of (Blob p) = 1

abbrev pub part_of : Argument → Part
part_of (Integer n) = record { start = 0; end = 0 }
part_of (Float n) = record { start = 0; end = 0 }
part_of (Text p) = p
part_of (Blob p) = p

-- the call that was kept of a message
abbrev pub given : List ℕ → Kept → Given
given s k = record { numbers = k.numbers; bytes = bytes_of s k.part }

-- what a slot takes of an argument; where there is none, nothing
abbrev pub take_in : Option Slot → osc.Argument → Given → Given
take_in (Some slot) x g = take slot x g
take_in None x g = g

pub record Keeps (slot : Option Slot) (x : Argument) (kept r : Kept) : Type 0 where
  pub takes : (s : List ℕ) → given s r ≡ take_in slot (argument_in s x) (given s kept)
  pub lies : (s : List ℕ) → Lies s x → Inside s kept.part → Inside s r.part

abbrev pub step_of : List ℕ → Option (Kept × Cursor) → Parse Given
step_of s r = read_of (given s) r

abbrev pub StepHolds : List ℕ → Option (Kept × Cursor) → Type 0
StepHolds s r = IfRead (λ (k : Kept). Inside s k.part) r

-- one argument taken at the slot k
abbrev pub argument_taken : List Slot → ℕ → ℕ → List ℕ → ℕ → Given → Parse Given
argument_taken slots k tag s at g = and_then (argument_at tag s at) (λ x next. parsed (take_in (slice_get slots k) x g) next)

-- all arguments taken
abbrev pub taken_at : List Slot → List ℕ → List ℕ → ℕ → Given → Parse Given
taken_at slots tags s at g = and_then (arguments_at tags s at) (λ xs end. parsed (take_all slots xs g) end)

pub record Walks (s : List ℕ) (reading : Parse Given) (r : Option (Kept × Cursor)) : Type 0 where
  pub reads : step_of s r ≡ reading
  pub holds : StepHolds s r
