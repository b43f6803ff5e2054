use Rattle.std.proofs.Common.{◌≡◌, ◌-◌, Some, sym, ap, ◌∙◌, arith}
use Rattle.messages.specs.Rows.{slots_of}
use Rattle.messages.specs.TableRows.{few_slots, short_address}
use Rattle.messagewrite.specs.Codes.{size_by, fits, exceeds, fitting_none, fitting_some}
use Rattle.messagewrite.specs.Slots.{sizes_past, sizes_turn}
use Rattle.messagewrite.specs.Whole.{whole_size}
use Rattle.messagewrite.proofs.row.message_size.Goals as goal

pub padded_length-requires : goal.padded_length-requires
padded_length-requires c = omega (arith, short_address c.args.op)

pub overflow_add-count : goal.overflow_add-count
overflow_add-count c = omega (arith, few_slots c.args.op)

pub padded_length-requires-2 : goal.padded_length-requires-2
padded_length-requires-2 c = omega (arith, few_slots c.args.op)

pub overflow_add-front : goal.overflow_add-front
overflow_add-front c = omega (arith, few_slots c.args.op, short_address c.args.op)

pub returns-in_err-at-2 : goal.returns-in_err-at-2
returns-in_err-at-2 c =
    let a = c.args in
    let i = c.loop-k.invariant in
    let turn = sizes_turn (slots_of a.op) c.loop-k.k a.size c.slot.result c.slot.ensures in
    let short = fitting_none (size_by c.slot.result a.size) (a.room - c.loop-k.at) (sym c.in_err-at-2.ensures) in
    rw c.from_residual-in_err-at-2.ensures (sym (exceeds (whole_size a.op a.size) a.room (omega arith)))

pub loop-k-preserved : goal.loop-k-preserved
loop-k-preserved c =
    let a = c.args in
    let i = c.loop-k.invariant in
    let turn = sizes_turn (slots_of a.op) c.loop-k.k a.size c.slot.result c.slot.ensures in
    let some = fitting_some (size_by c.slot.result a.size) (a.room - c.loop-k.at) c.in_ok-at-2.field-0 (sym c.in_ok-at-2.ensures) in
    (omega arith, omega arith)

pub returns : goal.returns
returns c =
    let a = c.args in
    let i = c.loop-k.invariant in
    let past = sizes_past (slots_of a.op) c.loop-k.k a.size (omega arith) in
    let all : c.loop-k.at ≡ whole_size a.op a.size = omega arith in
    ap Some all ∙ sym (fits (whole_size a.op a.size) a.room (omega arith))
