-- A message that is looked up: its row, and the call that is taken from it.
use Rattle.std.specs.Prelude.{suc, ◌+◌, ◌≤◌, ◌<◌, ◌≡◌, List}
use Rattle.std.proofs.Common.{sym, ap, ap₂, ◌∙◌, arith}
use Rattle.std.proofs.Math.Option.{Option, some}
use Rattle.osc.specs.Message.{message}
use Rattle.messages.specs.Form.{Message}
use Rattle.messages.specs.declared.Slot.{Slot}
use Rattle.messages.specs.Table.{Row, table, Given, Words, give_all}
use Rattle.messages.specs.Receive.{bare, look_up}
use Rattle.messages.specs.Write.{row_of, message_from, message_of}
use Rattle.messagelaws.specs.Arguments.{AllWell}
use Rattle.messagelaws.specs.Slots.{give_all_taken}
use Rattle.messagelaws.specs.Taken.{taken_op, taken_kind, taken_words}
use Rattle.messagelaws.specs.Rows.{row_place, row_fine, look_found}

pub record Looked (m : Message) (g : Given) : Type 0 where
  pub row : Row
  pub known : row_of g.numbers.op ≡ some row
  pub address : row.address ≡ m.address
  pub arguments : give_all row.slots g ≡ m.arguments
  pub kind : g.numbers.d ≤ 1
  pub words : AllWell m.arguments → Words g.numbers

pub looked : (m : Message) (g : Given) → look_up 1 table m ≡ some g → Looked m g
looked m g l =
    let f = look_found 1 table m g l in
    let slots : List Slot = f.row.slots in
    let first : Given = bare (1 + f.place) in
    let op : g.numbers.op ≡ suc f.place = ap (λ (h : Given). h.numbers.op) (sym f.call) ∙ taken_op slots m.arguments first ∙ omega arith in
    record {
      row = f.row;
      known = ap row_of op ∙ f.there;
      address = sym f.address;
      arguments = ap (λ (h : Given). give_all slots h) (sym f.call)
          ∙ give_all_taken slots m.arguments first (row_fine (suc f.place) f.row f.there).distinct f.fit;
      kind = rw f.call at (taken_kind slots m.arguments first (omega arith));
      words = λ well.
          let p = row_place table (suc f.place) f.row f.there in
          let below : p.place < 26 = p.below in
          let small : 1 + f.place < 4294967296 = omega (arith, p.same) in
          rw f.call at (taken_words slots m.arguments first well (record { op = small; a = omega arith; b = omega arith; c = omega arith; d = omega arith; e = omega arith }));
    }

-- the call is written as the message
pub looked_message : (m : Message) (g : Given) → Looked m g → message_of g ≡ message m.address m.arguments
unfolding message_of
looked_message m g l = ap (λ (o : Option Row). message_from o g) l.known ∙ ap₂ message l.address l.arguments
