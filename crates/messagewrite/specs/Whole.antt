-- What the writer answers and leaves, by the op's slots and its address.
use Rattle.std.specs.Prelude.{ℕ, ◌+◌, ◌≤◌, ◌<◌, Bool, true, false, not, ◌≡◌, refl, List, length, ltb, eqb}
use Rattle.std.proofs.Math.Path.{sym, ap}
use Rattle.std.proofs.Common.{◌∙◌, arith, lt-ltb, le-ltb}
use Rattle.std.proofs.Math.Option.{Option, none, some}
use Rattle.words.specs.Choice.{pick, both}
use Rattle.words.specs.Bytes.{AreBytes}
use Rattle.refusals.specs.declared.Refusal.{Refusal}
use Rattle.refusals.specs.declared.Refusal.TheVariants.{NoRoom, Malformed, UnknownMessage}
use Rattle.format.specs.Fields.{name_bytes}
use Rattle.osc.specs.Message.{message, arguments}
use Rattle.words.specs.Parts.{over}
use Rattle.osc.specs.Over.{over_first}
use Rattle.osc.specs.Lengths.{front_size, message_size}
use Rattle.model.specs.Answers.{Answer}
use Rattle.model.specs.Answers.{Replied, Refused}
use Rattle.model.specs.Checks.{first_of}
use Rattle.model.specs.Apply.{written}
use Rattle.calls.specs.Ops.{recall}
use Rattle.messages.specs.Table.{Row, Given, Words, give_all}
use Rattle.messages.specs.Write.{row_of, any_unfit, message_from, message_of, write_checks, write_answer, Writes}
use Rattle.messages.specs.Rows.{slots_in, address_in, slots_of, address_of}
use Rattle.messagewrite.specs.Slots.{given_count, sizes, arguments_size}
use Rattle.messages.specs.TableRows.{no_row}

-- the size of the message of an op, beside a name or a file of so many bytes
abbrev pub whole_size : ℕ → ℕ → ℕ
whole_size op size = front_size (length (address_of op)) (length (slots_of op)) + sizes (slots_of op) size

abbrev pub whole_message : Given → List ℕ
whole_message g = message (address_of g.numbers.op) (give_all (slots_of g.numbers.op) g)

pub whole-size : (g : Given) → length (whole_message g) ≡ whole_size g.numbers.op (length g.bytes)
whole-size g =
    let op = g.numbers.op in
    message_size (address_of op) (give_all (slots_of op) g)
    ∙ ap (λ (k : ℕ). front_size (length (address_of op)) k + length (arguments (give_all (slots_of op) g))) (given_count (slots_of op) g)
    ∙ ap (λ (k : ℕ). front_size (length (address_of op)) (length (slots_of op)) + k) (arguments_size (slots_of op) g)

row_message : (o : Option Row) (g : Given) → 0 < length (address_in o) → message_from o g ≡ message (address_in o) (give_all (slots_in o) g)
row_message none g h = absurd (omega arith)
row_message (some r) g h = refl

row_answer : (o : Option Row) (g : Given) (room : ℕ) (a : Answer) → 0 < length (address_in o)
    → first_of (write_checks o g room) a ≡ pick (any_unfit g.bytes (slots_in o)) (Refused Malformed) (pick (ltb room (length (message_from o g))) (Refused NoRoom) a)
unfolding first_of
row_answer none g room a h = absurd (omega arith)
row_answer (some r) g room a h = refl

-- the refusal of a command that has no address, beside its bytes
abbrev pub without_address : ℕ → List ℕ → Refusal
without_address op bytes = pick (both (eqb op recall) (not (name_bytes bytes))) Malformed UnknownMessage

none_answer : (g : Given) (room : ℕ) (a : Answer) → first_of (write_checks none g room) a ≡ Refused (without_address g.numbers.op g.bytes)
unfolding first_of
none_answer g room a = by (both (eqb g.numbers.op recall) (not (name_bytes g.bytes)))
  where
    by : (u : Bool) → pick u (Refused Malformed) (Refused UnknownMessage) ≡ Refused (pick u Malformed UnknownMessage)
    by true = refl
    by false = refl

module _ (g : Given) (out : List ℕ) (w : Words g.numbers) (lent : AreBytes g.bytes) where
  pub writes_none : length (address_of g.numbers.op) ≡ 0 → Writes g out (Refused (without_address g.numbers.op g.bytes)) out
  unfolding write_answer
  writes_none e =
      let z : row_of g.numbers.op ≡ none = no_row g.numbers.op e in
      let a : write_answer g (length out) ≡ Refused (without_address g.numbers.op g.bytes) = rw z (none_answer g (length out) (Replied (length (message_of g)))) in
      record { answers = sym a; left = ap (λ (b : Answer). written b (message_of g) out) (sym a); numbers = w; lent_bytes = lent }

  module _ (h : 0 < length (address_of g.numbers.op)) where
    is_message : message_of g ≡ whole_message g
    unfolding message_of address_of slots_of
    is_message = row_message (row_of g.numbers.op) g h

    is_answer : write_answer g (length out) ≡ pick (any_unfit g.bytes (slots_of g.numbers.op)) (Refused Malformed) (pick (ltb (length out) (length (message_of g))) (Refused NoRoom) (Replied (length (message_of g))))
    unfolding write_answer message_of address_of slots_of
    is_answer = row_answer (row_of g.numbers.op) g (length out) (Replied (length (message_from (row_of g.numbers.op) g))) h

    is_size : length (message_of g) ≡ whole_size g.numbers.op (length g.bytes)
    is_size = ap (length {A = ℕ}) is_message ∙ whole-size g

    by_answer : (a : Answer) (out' : List ℕ) → write_answer g (length out) ≡ a → out' ≡ written a (message_of g) out → Writes g out a out'
    by_answer a out' e o = record { answers = sym e; left = o ∙ ap (λ (b : Answer). written b (message_of g) out) (sym e); numbers = w; lent_bytes = lent }

    pub writes_unfit : any_unfit g.bytes (slots_of g.numbers.op) ≡ true → Writes g out (Refused Malformed) out
    writes_unfit u = by_answer (Refused Malformed) out (rw u at is_answer) refl

    module _ (fit : any_unfit g.bytes (slots_of g.numbers.op) ≡ false) where
      pub writes_short : length out < whole_size g.numbers.op (length g.bytes) → Writes g out (Refused NoRoom) out
      writes_short s = by_answer (Refused NoRoom) out (rw (fit, lt-ltb (length out) (length (message_of g)) (rw is_size s)) at is_answer) refl

      pub writes_whole : (size : ℕ) (out' : List ℕ) → size ≡ whole_size g.numbers.op (length g.bytes) → size ≤ length out → out' ≡ over 0 (whole_message g) out → Writes g out (Replied size) out'
      writes_whole size out' e room o =
          let same : length (message_of g) ≡ size = is_size ∙ sym e in
          let fits : length (message_of g) ≤ length out = rw same room in
          by_answer (Replied size) out'
          ((rw (fit, le-ltb (length out) (length (message_of g)) fits) at is_answer) ∙ ap Replied same)
          (o ∙ ap (λ (l : List ℕ). over 0 l out) (sym is_message) ∙ over_first (message_of g) out ∙ ap (λ (k : ℕ). written (Replied k) (message_of g) out) same)
