-- The laws of messages: paper 02, 1/14, "Also write each command that has an address as a message; reading it gives the command back."
-- They are of calls: `Writes` is what `messagewrite::write` promises of every input, and `message_write` by it; `Reads` what `messageread::read`
-- promises, and `Sends` what `engine::message` does.
use Rattle.std.specs.Prelude.{ℕ, ◌-◌, ◌≤◌, ◌≡◌, refl, List, ◌++◌, length, take, drop, Some, Result, Ok}
use Rattle.std.proofs.Common.{sym, ap, ◌∙◌, subst}
use Rattle.std.proofs.Math.Option.{some}
use Rattle.words.specs.Bytes.{AreBytes}
use Rattle.words.specs.Parts.{region}
use Rattle.refusals.specs.declared.Refusal.{Refusal}
use Rattle.model.specs.Answers.{Answer}
use Rattle.model.specs.Answers.{Replied}
use Rattle.model.specs.declared.Query.TheVariants as query
use Rattle.model.specs.declared.Command.{Command}
use Rattle.model.specs.declared.Command.TheVariants as command
use Rattle.model.specs.Apply.{written, Does}
use Rattle.calls.specs.Ops.{command_in}
use Rattle.messages.specs.declared.Received.{Received}
use Rattle.messages.specs.Form.{parsed, Message, read_message}
use Rattle.messages.specs.Table.{Row, table, Given, Words}
use Rattle.messages.specs.Receive.{look_up, Meaning, unknown, means, meaning, handed, Reads}
use Rattle.messages.specs.Write.{row_of, message_of, write_answer, Writes}
use Rattle.messages.specs.Sent.{Serves, Sends}
use Rattle.messagelaws.specs.Form.{message_forth}
use Rattle.messagelaws.specs.Slots.{none_unfit}
use Rattle.messagelaws.specs.Commands.{IsCommand}
use Rattle.messagelaws.specs.Looked.{looked, looked_message}
use Rattle.messagelaws.specs.Answers.{Fits, fits-answer, answer-fits, wrote-message}
use Rattle.messagelaws.specs.Every.{call_of, Called, every_called}
use Rattle.messagelaws.specs.Back.{part_of, back}
use Rattle.messagelaws.specs.Standing.{looked_command, Unfound, Standing, no_row, in_row, standing}

-- a message that is read as the command of a call, with the name or the file that the command takes: by the reader, and by the engine, which does
-- that command
pub record ReadBack (s : List ℕ) (g : Given) (c : Command) : Type 0 where
  pub row : Row
  pub known : row_of g.numbers.op ≡ some row
  pub stands : meaning s ≡ means c (part_of row g)
  pub read : (r : Result Received Refusal) → Reads s r → handed s r ≡ means c (part_of row g)
  pub sent : (ws bs out : List ℕ) (a : Answer) (ws' bs' out' : List ℕ) → Sends s ws bs out a ws' bs' out' → Does c (part_of row g) ws bs out a ws' bs' out'

-- Reading what the writer wrote gives the command back: of every call of a command that it accepts, the bytes that it wrote
pub read_written : (g : Given) (c : Command) (out out' : List ℕ) (n : ℕ) → command_in g.numbers ≡ Some c → Writes g out (Replied n) out' → ReadBack (take n out') g c
read_written g c out out' n h w =
    let s = take n out' in
    let fits = answer-fits g (length out) n (sym w.answers) in
    let stands : meaning s ≡ means c (part_of fits.row g) = ap meaning (wrote-message g out out' n w) ∙ back g fits c w.numbers h in
    record {
      row = fits.row;
      known = fits.known;
      stands = stands;
      read = λ r e. sym e.stands ∙ stands;
      sent = λ ws bs reply a ws' bs' reply' e. subst (λ (m : Meaning). Serves m ws bs reply a ws' bs' reply') stands e.serves;
    }

-- and so of every command but export, which has no address, with any bytes beside it: its own call has a row
pub command_called : (c : Command) → (c ≡ command.Query query.Export → ⊥) → Called c
command_called c h = every_called c h

pub command_back : (c : Command) (part : List ℕ) → (c ≡ command.Query query.Export → ⊥) → (out out' : List ℕ) (n : ℕ) → Writes (call_of c part) out (Replied n) out'
    → ReadBack (take n out') (call_of c part) c
command_back c part h out out' n w = read_written (call_of c part) c out out' n (every_called c h).is w

-- a call that is written as a message, byte for byte, into every buffer that has room for it
pub record Rewrites (s : List ℕ) (g : Given) : Type 0 where
  pub bytes : message_of g ≡ s
  pub fits : Fits g
  pub answers : (room : ℕ) → length s ≤ room → write_answer g room ≡ Replied (length s)
  pub writes : (out : List ℕ) (a : Answer) (out' : List ℕ) → length s ≤ length out → Writes g out a out' → (a ≡ Replied (length s)) × (out' ≡ s ++ drop (length s) out)

rewrites : (s : List ℕ) (g : Given) → message_of g ≡ s → Fits g → Rewrites s g
rewrites s g bytes fits =
    let answers = fits-answer g s fits bytes in
    record {
      bytes = bytes;
      fits = fits;
      answers = answers;
      writes = λ out a out' h w.
          (w.answers ∙ answers (length out) h, w.left ∙ ap (λ (x : Answer). written x (message_of g) out) (answers (length out) h) ∙ ap (λ (l : List ℕ). l ++ drop (length s) out) bytes);
    }

-- a message that stands for a command is written from a call of that command, of numbers of 32 bits, with the same name or file
pub record WrittenBack (s : List ℕ) (c : Command) (part : List ℕ) : Type 0 where
  pub call : Given
  pub command : command_in call.numbers ≡ Some c
  pub numbers : Words call.numbers
  pub beside : call.bytes ≡ part
  pub rewrites : Rewrites s call

looked_back : (s : List ℕ) → AreBytes s → (m : Message) (end : ℕ) → read_message s ≡ parsed m end → (g : Given) → look_up 1 table m ≡ some g → (c : Command) → command_in g.numbers ≡ Some c
    → WrittenBack s c g.bytes
looked_back s b m end e g l c h =
    let k = looked m g l in
    let w = message_forth s b m end e in
    record {
      call = g;
      command = h;
      numbers = k.words w.formed.well;
      beside = refl;
      rewrites = rewrites s g (looked_message m g k ∙ w.bytes) (record { row = k.row; known = k.known; fit = none_unfit k.row.slots g (rw k.arguments w.formed.well) });
    }

meant_back : (s : List ℕ) → AreBytes s → (c : Command) (part : List ℕ) → meaning s ≡ means c part → WrittenBack s c part
meant_back s b c part e = by c part (rw e at (standing s))
  where
    by : (d : Command) (bytes : List ℕ) → Standing s (means d bytes) → WrittenBack s d bytes
    by d bytes (in_row m end g x r l h) = looked_back s b m end r g l d h

-- Writing what was read gives the message back: of every message that the reader hands on as a command, and of every one that the engine takes for
-- one
pub write_read : (s : List ℕ) (c : Command) (start end : ℕ) → Reads s (Ok (record { command = c; start = start; end = end })) → WrittenBack s c (region start (end - start) s)
write_read s c start end r = meant_back s r.lent_message c (region start (end - start) s) r.stands

pub write_sent : (s ws bs out : List ℕ) (a : Answer) (ws' bs' out' : List ℕ) → Sends s ws bs out a ws' bs' out' → (c : Command) (part : List ℕ) → meaning s ≡ means c part → WrittenBack s c part
write_sent s ws bs out a ws' bs' out' r c part e = meant_back s r.lent_message c part e

-- Every message that is looked up is a command, so one is unknown exactly where it has a form and fits no row
pub looked_up : (m : Message) (g : Given) → look_up 1 table m ≡ some g → IsCommand (command_in g.numbers)
looked_up m g l = looked_command m g l

pub unknown_exactly : (s : List ℕ) → (meaning s ≡ unknown → Unfound s) × (Unfound s → meaning s ≡ unknown)
unfolding meaning
unknown_exactly s = (λ e. by (rw e at (standing s)), λ u. rw (u.form, u.rowless))
  where
    by : Standing s unknown → Unfound s
    by (no_row u) = u
