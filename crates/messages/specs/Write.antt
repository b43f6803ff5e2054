-- Writing a command as a message: paper 02, 1/14, "Also write each command that has an address as a message".
use Rattle.std.specs.Prelude.{ℕ, zero, suc, Bool, true, false, not, ◌≡◌, List, [], ◌∷◌, length, ltb, eqb}
use Rattle.std.proofs.Math.Option.{Option, none, some}
use Rattle.words.specs.Choice.{both, either}
use Rattle.words.specs.Bytes.{AreBytes}
use Rattle.refusals.specs.declared.Refusal.TheVariants.{NoRoom, Malformed, UnknownMessage}
use Rattle.format.specs.Fields.{name_bytes, highest32}
use Rattle.osc.specs.Message.{message}
use Rattle.model.specs.Answers.{Answer}
use Rattle.model.specs.Answers.{Replied}
use Rattle.model.specs.Checks.{Check, check, first_of}
use Rattle.model.specs.Apply.{written}
use Rattle.calls.specs.Ops.{recall}
use Rattle.messages.specs.declared.Slot.{Slot}
use Rattle.messages.specs.declared.Slot.TheVariants.{NumberA, NumberB, NumberC, Value, Name, File}
use Rattle.messages.specs.Table.{Row, table, Given, Words, give_all}

-- the row of an op; none for one that has no address
unfoldable pub row_from : List Row → ℕ → Option Row
row_from [] op = none
row_from (r ∷ rows) zero = none
row_from (r ∷ rows) (suc zero) = some r
row_from (r ∷ rows) (suc (suc op)) = row_from rows (suc op)

abbrev pub row_of : ℕ → Option Row
row_of op = row_from table op

-- "The writer refuses a name with any other byte, or a file over 2,147,483,647 bytes, with 26"
abbrev pub unfit : List ℕ → Slot → Bool
unfit bytes NumberA = false
unfit bytes NumberB = false
unfit bytes NumberC = false
unfit bytes Value = false
unfit bytes Name = not (name_bytes bytes)
unfit bytes File = ltb highest32 (length bytes)

unfoldable pub any_unfit : List ℕ → List Slot → Bool
any_unfit bytes [] = false
any_unfit bytes (slot ∷ slots) = either (unfit bytes slot) (any_unfit bytes slots)

-- the message of a call
abbrev pub message_by : Row → Given → List ℕ
message_by r g = message r.address (give_all r.slots g)

abbrev pub message_from : Option Row → Given → List ℕ
message_from none g = []
message_from (some r) g = message_by r g

unfoldable pub message_of : Given → List ℕ
message_of g = message_from (row_of g.numbers.op) g

-- "with 26, then a command that has no address with 27, then a buffer too short with 24": of those without an address a recall has a name (8/14)
abbrev pub write_checks : Option Row → Given → ℕ → List Check
write_checks none g room = check Malformed (both (eqb g.numbers.op recall) (not (name_bytes g.bytes))) ∷ (check UnknownMessage true ∷ [])
write_checks (some r) g room = check Malformed (any_unfit g.bytes r.slots) ∷ (check NoRoom (ltb room (length (message_by r g))) ∷ [])

unfoldable pub write_answer : Given → ℕ → Answer
write_answer g room = first_of (write_checks (row_of g.numbers.op) g room) (Replied (length (message_of g)))

-- a call written into a lent buffer, from its first byte; bytes past it stay, and a refusal changes none. Its numbers have 32 bits, and what is
-- lent as bytes is bytes
pub record Writes (g : Given) (out : List ℕ) (a : Answer) (out' : List ℕ) : Type 0 where
  pub answers : a ≡ write_answer g (length out)
  pub left : out' ≡ written (write_answer g (length out)) (message_of g) out
  pub numbers : Words g.numbers
  pub lent_bytes : AreBytes g.bytes
