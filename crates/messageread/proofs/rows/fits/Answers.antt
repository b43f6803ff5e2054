use Rattle.std.proofs.Common.{◌≡◌, length, sym, ap, ◌∙◌, arith}
use Rattle.std.specs.Option.{is_none}
use Rattle.messages.specs.Rows.{slots_of}
use Rattle.messageread.specs.LookupLaws.{fit_turn, fit_end, no_slot}
use Rattle.messageread.proofs.rows.fits.Goals as goal

pub loop-k-preserved : goal.loop-k-preserved
loop-k-preserved c =
    let a = c.args in
    let taken = sym (rw c.slot_at.ensures at c.if-not-takes.ensures) in
    rw taken at (sym (fit_turn (slots_of a.op) a.tags.now c.loop-k.k (omega arith)) ∙ c.loop-k.invariant)

pub returns-then-not-takes : goal.returns-then-not-takes
returns-then-not-takes c =
    let a = c.args in
    let taken = sym (rw c.slot_at.ensures at c.if-not-takes.ensures) in
    rw taken at (sym (fit_turn (slots_of a.op) a.tags.now c.loop-k.k (omega arith)) ∙ c.loop-k.invariant)

pub returns : goal.returns
returns c =
    let a = c.args in
    let whole : c.loop-k.k ≡ length a.tags.now = omega arith in
    no_slot c.slot_at-2.result c.is_none.result c.is_none.ensures
    ∙ ap is_none c.slot_at-2.ensures
    ∙ sym (fit_end (slots_of a.op) a.tags.now (length a.tags.now) (omega arith))
    ∙ (rw whole at c.loop-k.invariant)
