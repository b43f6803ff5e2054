use Rattle.std.proofs.Common.{◌≡◌, Some, None, arith}
use Rattle.std.proofs.lemmas.Result.{err_from_is_err_and}
use Rattle.refusals.specs.declared.Refusal.TheVariants.{Malformed}
use Rattle.messageread.specs.Answers.{bytes_of}
use Rattle.messageread.specs.FinishLaws.{no_address, addressed}
use Rattle.messageread.proofs.read.Goals as goal

pub returns-in_err-address : goal.returns-in_err-address
returns-in_err-address c =
    let lent = c.type_inv.message in
    let p = err_from_is_err_and c.from_residual.result c.from_residual.ensures.1 in
    let none : c.headed.result ≡ None = grind arith in
    let why : c.in_err-address.field-0.0 ≡ Malformed = grind arith in
    rw (p.1, p.2, why) (no_address c.args.message.now (λ i. (lent i).fits) (rw none at c.headed.ensures.reads))

pub returns : goal.returns
returns c =
    let lent = c.type_inv.message in
    let s = c.args.message.now in
    let address = c.in_ok-address.address in
    let next = c.in_ok-address.next in
    let found : c.headed.result ≡ Some (address, next) = grind arith in
    addressed s (λ i. (lent i).fits) (bytes_of s address) next.at c.behind_address.result (rw found at c.headed.ensures.reads) c.behind_address.ensures
