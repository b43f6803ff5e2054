use Rattle.std.proofs.Common.{◌≡◌, true, false, sym, ◌∙◌, arith}
use Rattle.messages.specs.Write.{unfit}
use Rattle.messages.specs.Rows.{slots_of}
use Rattle.messagewrite.specs.Slots.{unfit_turn, unfit_past}
use Rattle.messagewrite.proofs.row.any_unfit.Goals as goal

pub returns-then-is_unfit : goal.returns-then-is_unfit
returns-then-is_unfit c =
    let a = c.args in
    let s = a.bytes.now in
    let u : unfit s c.slot.result ≡ true = sym c.is_unfit.ensures ∙ c.if-is_unfit.true in
    rw u at (sym (unfit_turn s (slots_of a.op) c.loop-k.k c.slot.result c.slot.ensures) ∙ c.loop-k.invariant)

pub loop-k-preserved : goal.loop-k-preserved
loop-k-preserved c =
    let a = c.args in
    let s = a.bytes.now in
    let u : unfit s c.slot.result ≡ false = sym c.is_unfit.ensures ∙ c.if-is_unfit.false in
    rw u at (sym (unfit_turn s (slots_of a.op) c.loop-k.k c.slot.result c.slot.ensures) ∙ c.loop-k.invariant)

pub returns : goal.returns
returns c =
    let a = c.args in
    sym (unfit_past a.bytes.now (slots_of a.op) c.loop-k.k (omega arith)) ∙ c.loop-k.invariant
