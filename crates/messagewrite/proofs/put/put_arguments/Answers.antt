use Rattle.std.proofs.Common.{ℕ, ◌≡◌, ◌+◌, ◌-◌, List, ◌++◌, length, length-append, take, drop, refl, sym, ap, ◌∙◌, arith}
use Rattle.words.specs.ChoiceLaws.{either_false}
use Rattle.osc.specs.Message.{arguments, argument_bytes, Argument}
use Rattle.words.specs.Parts.{over}
use Rattle.osc.specs.Over.{over_length}
use Rattle.replies.specs.Words.{over_none}
use Rattle.messages.specs.Table.{give, give_all}
use Rattle.messages.specs.Write.{unfit, any_unfit}
use Rattle.messages.specs.Rows.{slots_of}
use Rattle.messagewrite.specs.Codes.{given, size_by, size-by, fits, fitting_some}
use Rattle.messagewrite.specs.Slots.{next_bytes, taken_all, sizes_turn, unfit_turn}
use Rattle.messagewrite.specs.Pieces.{two_parts}
use Rattle.messagewrite.proofs.put.put_arguments.Goals as goal

pub loop-k-init : goal.loop-k-init
unfolding arguments
loop-k-init c =
    let p = c.requires in
    let a = c.args in
    (sym (over_none a.start a.out.now), refl, omega arith, p.room, p.fit)

pub returns : goal.returns
returns c =
    let a = c.args in
    let slots = slots_of a.numbers.op in
    let e : c.loop-k.k ≡ length slots = omega arith in
    c.loop-k.invariant.0 ∙ ap (λ (l : List Argument). over a.start (arguments l) a.out.now) (taken_all slots (given a.numbers a.bytes.now) c.loop-k.k e)

pub unwrap-more-requires : goal.unwrap-more-requires
unwrap-more-requires c =
    let a = c.args in
    let n = length a.bytes.now in
    let slots = slots_of a.numbers.op in
    let i = c.loop-k.invariant in
    let turn = sizes_turn slots c.loop-k.k n c.slot-slot.result c.slot-slot.ensures in
    rw (c.argument_size.ensures, fits (size_by c.slot-slot.result n) (length c.loop-k.out - c.loop-k.at) (omega arith)) refl

pub put_argument-requires : goal.put_argument-requires
put_argument-requires c =
    let a = c.args in
    let s = a.bytes.now in
    let n = length s in
    let slots = slots_of a.numbers.op in
    let slot = c.slot-slot.result in
    let i = c.loop-k.invariant in
    let turn = sizes_turn slots c.loop-k.k n slot c.slot-slot.ensures in
    let apart = either_false (unfit s slot) (any_unfit s (drop (c.loop-k.k + 1) slots)) (sym (unfit_turn s slots c.loop-k.k slot c.slot-slot.ensures) ∙ i.4) in
    record { fit = apart.0; room = omega arith }

pub loop-k-preserved : goal.loop-k-preserved
loop-k-preserved c =
    let a = c.args in
    let s = a.bytes.now in
    let n = length s in
    let slots = slots_of a.numbers.op in
    let slot = c.slot-slot.result in
    let there = c.slot-slot.ensures in
    let i = c.loop-k.invariant in
    let k = c.loop-k.k in
    let us = a.out.now in
    let o = c.put_argument.new.out in
    let g = given a.numbers s in
    let turn = sizes_turn slots k n slot there in
    let apart = either_false (unfit s slot) (any_unfit s (drop (k + 1) slots)) (sym (unfit_turn s slots k slot there) ∙ i.4) in
    let some = fitting_some (size_by slot n) (length c.loop-k.out - c.loop-k.at) c.unwrap-more.result (sym c.argument_size.ensures ∙ c.unwrap-more.ensures) in
    let part = argument_bytes (give slot g) in
    let done = arguments (take k (give_all slots g)) in
    let long : length part ≡ size_by slot n = size-by slot g in
    let step : arguments (take (k + 1) (give_all slots g)) ≡ done ++ part = next_bytes slots g k slot there in
    let longer : length (arguments (take (k + 1) (give_all slots g))) ≡ length done + length part = ap length step ∙ length-append done part in
    let more : o ≡ over a.start (arguments (take (k + 1) (give_all slots g))) us =
    two_parts a.start done part us c.loop-k.out o c.loop-k.at i.2 i.0 c.put_argument.ensures (omega arith) ∙ ap (λ (p : List ℕ). over a.start p us) (sym step) in
    (more, ap length more ∙ over_length a.start (arguments (take (k + 1) (give_all slots g))) us (omega arith), omega arith, omega arith, apart.1)
