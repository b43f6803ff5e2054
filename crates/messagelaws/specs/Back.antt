-- Reading what the writer wrote: the message of a call, read and looked up, gives the call's command.
use Rattle.std.specs.Prelude.{ℕ, ◌≡◌, refl, List, [], length, Some}
use Rattle.std.proofs.Common.{ap, ap₂, ◌∙◌}
use Rattle.std.proofs.Math.Option.{Option}
use Rattle.words.specs.Choice.{pick}
use Rattle.osc.specs.Message.{Argument, message}
use Rattle.model.specs.declared.Command.{Command}
use Rattle.calls.specs.Ops.{command_in}
use Rattle.messages.specs.Form.{Message, parsed, read_message}
use Rattle.messages.specs.Table.{Row, Given, Words, give_all}
use Rattle.messages.specs.Receive.{bare, means, calls, known, meaning_of, meaning}
use Rattle.messages.specs.Write.{message_from, message_of}
use Rattle.messagelaws.specs.Form.{message_back}
use Rattle.messagelaws.specs.Slots.{given_fits, all_well}
use Rattle.messagelaws.specs.Taken.{beside, taken_bytes}
use Rattle.messagelaws.specs.Rows.{row_fine, look-own}
use Rattle.messagelaws.specs.Commands.{taken_command}
use Rattle.messagelaws.specs.Answers.{Fits}

-- the name or the file beside a command: the call's bytes where its row takes one of them
abbrev pub part_of : Row → Given → List ℕ
part_of r g = pick (beside r.slots) g.bytes []

pub back : (g : Given) (f : Fits g) (c : Command) → Words g.numbers → command_in g.numbers ≡ Some c → meaning (message_of g) ≡ means c (part_of f.row g)
unfolding meaning message_of
back g f c w h =
    let r : Row = f.row in
    let args : List Argument = give_all r.slots g in
    let m : Message = record { address = r.address; arguments = args } in
    let op : ℕ = g.numbers.op in
    let fine = row_fine op r f.known in
    let read : read_message (message r.address args) ≡ parsed m (length (message r.address args)) =
    message_back r.address args (record { slash = fine.slash; plain = fine.plain; well = all_well r.slots g w f.fit }) in
    ap (λ (o : Option Row). meaning_of (read_message (message_from o g))) f.known
    ∙ ap meaning_of read
    ∙ ap known (look-own m op r f.known refl (given_fits r.slots g))
    ∙ ap₂ calls (taken_command g r c f.known h) (taken_bytes r.slots g (bare op))
