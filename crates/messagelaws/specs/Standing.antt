-- What a message stands for, by its reading and its row: what is looked up is always a command.
use Rattle.std.specs.Prelude.{ℕ, ◌≡◌, refl, List, Some}
use Rattle.std.proofs.Math.Option.{Option, none, some}
use Rattle.model.specs.declared.Command.{Command}
use Rattle.calls.specs.Ops.{command_in}
use Rattle.messages.specs.Form.{Parse, parsed, faulty, Message, read_message}
use Rattle.messages.specs.Table.{table, Given}
use Rattle.messages.specs.Receive.{look_up, Meaning, malformed, unknown, means, known, meaning_of, meaning}
use Rattle.messagelaws.specs.Commands.{IsCommand, row_command}
use Rattle.messagelaws.specs.Looked.{looked}

pub looked_command : (m : Message) (g : Given) → look_up 1 table m ≡ some g → IsCommand (command_in g.numbers)
looked_command m g l = let k = looked m g l in row_command g.numbers k.row k.kind k.known

-- a message that has a form and fits no row
pub record Unfound (s : List ℕ) : Type 0 where
  pub message : Message
  pub end : ℕ
  pub form : read_message s ≡ parsed message end
  pub rowless : look_up 1 table message ≡ none

pub data Standing (s : List ℕ) : Meaning → Type 0 where
  no_form : read_message s ≡ faulty → Standing s malformed
  no_row : Unfound s → Standing s unknown
  in_row : (m : Message) (end : ℕ) (g : Given) (c : Command) → read_message s ≡ parsed m end → look_up 1 table m ≡ some g → command_in g.numbers ≡ Some c → Standing s (means c g.bytes)

pub standing : (s : List ℕ) → Standing s (meaning s)
unfolding meaning
standing s = by (read_message s) refl
  where
    row : (m : Message) (end : ℕ) → read_message s ≡ parsed m end → (o : Option Given) → look_up 1 table m ≡ o → Standing s (known o)
    row m end e none l = no_row (record { message = m; end = end; form = e; rowless = l })
    row m end e (some g) l = let c = looked_command m g l in rw c.is (in_row m end g c.command e l c.is)

    by : (p : Parse Message) → read_message s ≡ p → Standing s (meaning_of p)
    by faulty e = no_form e
    by (parsed m end) e = row m end e (look_up 1 table m) refl
