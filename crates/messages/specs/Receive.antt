-- What a message stands for: malformed, unknown, or a command with its name or its file.
use Rattle.std.specs.Prelude.{ℕ, suc, ◌-◌, ◌≤◌, ◌≡◌, List, [], ◌∷◌, length, Option, Some, None, Result, Ok, Err}
use Prim.{Unit}
use Rattle.std.proofs.Math.Option as maybe
use Rattle.words.specs.Choice.{pick, both}
use Rattle.words.specs.Bytes.{AreBytes}
use Rattle.words.specs.Parts.{region}
use Rattle.format.specs.Reader.{same_name}
use Rattle.osc.specs.Message.{tags}
use Rattle.refusals.specs.declared.Refusal.{Refusal}
use Rattle.refusals.specs.declared.Refusal.TheVariants.{Malformed, UnknownMessage}
use Rattle.model.specs.declared.Command.{Command}
use Rattle.calls.specs.Ops.{command_in}
use Rattle.messages.specs.declared.Received.{Received}
use Rattle.messages.specs.Form.{Parse, parsed, faulty, Message, read_message}
use Rattle.messages.specs.Table.{Row, table, Given, fit_all, take_all}

-- the call of an op before its arguments are taken
abbrev pub bare : ℕ → Given
bare op = record { numbers = record { op = op; a = 0; b = 0; c = 0; d = 0; e = 0 }; bytes = [] }

-- the first row, from an op on, whose address is the message's and whose slots its arguments fit
unfoldable pub look_up : ℕ → List Row → Message → maybe.Option Given
look_up op [] m = maybe.none
look_up op (r ∷ rows) m =
    pick (both (same_name m.address r.address) (fit_all r.slots (tags m.arguments)))
    (maybe.some (take_all r.slots m.arguments (bare op)))
    (look_up (suc op) rows m)

-- what a message stands for: a command with the name or the file beside it, or a refusal
abbrev pub Meaning : Type 0
Meaning = Result (Command × List ℕ) Refusal

-- refusal 26
abbrev pub malformed : Meaning
malformed = Err Malformed

-- "unknown address, or tags that don't fit it": refusal 27
abbrev pub unknown : Meaning
unknown = Err UnknownMessage

abbrev pub means : Command → List ℕ → Meaning
means c bytes = Ok (c, bytes)

abbrev pub calls : Option Command → List ℕ → Meaning
calls (Some c) bytes = means c bytes
calls None bytes = unknown

abbrev pub known : maybe.Option Given → Meaning
known maybe.none = unknown
known (maybe.some g) = calls (command_in g.numbers) g.bytes

abbrev pub meaning_of : Parse Message → Meaning
meaning_of (parsed m end) = known (look_up 1 table m)
meaning_of faulty = malformed

unfoldable pub meaning : List ℕ → Meaning
meaning s = meaning_of (read_message s)

-- what the reader hands on: the command, and the part of the message that is its name or its file
abbrev pub handed : List ℕ → Result Received Refusal → Meaning
handed s (Ok r) = means r.command (region r.start (r.end - r.start) s)
handed s (Err e) = Err e

abbrev pub Within : List ℕ → Result Received Refusal → Type 0
Within s (Ok r) = (r.start ≤ r.end) × (r.end ≤ length s)
Within s (Err e) = Unit {0}

-- a message that was read, and what was handed on; what is lent as bytes is bytes
pub record Reads (s : List ℕ) (r : Result Received Refusal) : Type 0 where
  pub stands : meaning s ≡ handed s r
  pub within : Within s r
  pub lent_message : AreBytes s
