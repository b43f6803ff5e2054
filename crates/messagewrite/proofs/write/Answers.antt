use Rattle.std.proofs.Common.{◌≡◌, ◌<◌, Some, None, length, sym, ◌∙◌, arith}
use Rattle.std.proofs.lemmas.Result.{err_from_is_err_and}
use Rattle.refusals.specs.declared.Refusal.TheVariants.{NoRoom}
use Rattle.messages.specs.Rows.{address_of}
use Rattle.messagewrite.specs.Codes.{given, fitting_none, fitting_some}
use Rattle.messagewrite.specs.Whole.{whole_size, writes_none, writes_unfit, writes_short, writes_whole}
use Rattle.messagewrite.proofs.write.Goals as goal

pub returns-then-address_length-eq0 : goal.returns-then-address_length-eq0
returns-then-address_length-eq0 c =
    let a = c.args in
    rw (c.into.ensures, c.without_address.ensures)
    (writes_none (given a.numbers a.bytes.now) a.out.now (let n = c.well_formed.0.1.1 in record { op = n.0.1; a = n.1.0.1; b = n.1.1.0.1; c = n.1.1.1.0.1; d = n.1.1.1.1.0.1; e = n.1.1.1.1.1.0.1 }) (λ i. (c.type_inv.bytes i).fits)
    (sym c.address_length.ensures ∙ c.if-address_length-eq0.true))

pub returns-then-any_unfit : goal.returns-then-any_unfit
returns-then-any_unfit c =
    let a = c.args in
    let h : 0 < length (address_of a.numbers.op) = omega (arith, c.address_length.ensures) in
    rw c.into-then-any_unfit.ensures
    (writes_unfit (given a.numbers a.bytes.now) a.out.now (let n = c.well_formed.0.1.1 in record { op = n.0.1; a = n.1.0.1; b = n.1.1.0.1; c = n.1.1.1.0.1; d = n.1.1.1.1.0.1; e = n.1.1.1.1.1.0.1 }) (λ i. (c.type_inv.bytes i).fits)
    h (sym c.any_unfit.ensures ∙ c.if-any_unfit.true))

pub returns-in_err-size : goal.returns-in_err-size
returns-in_err-size c =
    let a = c.args in
    let op = a.numbers.op in
    let h : 0 < length (address_of op) = omega (arith, c.address_length.ensures) in
    let p = err_from_is_err_and c.from_residual.result c.from_residual.ensures.1 in
    let none : c.message_size.result ≡ None = grind arith in
    let why : c.in_err-size.field-0.0 ≡ NoRoom = grind arith in
    rw (p.1, p.2, why)
    (writes_short (given a.numbers a.bytes.now) a.out.now (let n = c.well_formed.0.1.1 in record { op = n.0.1; a = n.1.0.1; b = n.1.1.0.1; c = n.1.1.1.0.1; d = n.1.1.1.1.0.1; e = n.1.1.1.1.1.0.1 }) (λ i. (c.type_inv.bytes i).fits)
    h (sym c.any_unfit.ensures ∙ c.if-any_unfit.false)
    (fitting_none (whole_size op (length a.bytes.now)) (length a.out.now) (sym c.message_size.ensures ∙ none)))

pub returns : goal.returns
returns c =
    let a = c.args in
    let op = a.numbers.op in
    let h : 0 < length (address_of op) = omega (arith, c.address_length.ensures) in
    let found : c.message_size.result ≡ Some c.in_ok-size.size = grind arith in
    let some = fitting_some (whole_size op (length a.bytes.now)) (length a.out.now) c.in_ok-size.size (sym c.message_size.ensures ∙ found) in
    writes_whole (given a.numbers a.bytes.now) a.out.now (let n = c.well_formed.0.1.1 in record { op = n.0.1; a = n.1.0.1; b = n.1.1.0.1; c = n.1.1.1.0.1; d = n.1.1.1.1.0.1; e = n.1.1.1.1.1.0.1 }) (λ i. (c.type_inv.bytes i).fits)
    h (sym c.any_unfit.ensures ∙ c.if-any_unfit.false) c.in_ok-size.size c.put_message.new.out (sym some.0) (omega arith) c.put_message.ensures
