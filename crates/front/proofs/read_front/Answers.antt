use Rattle.std.proofs.Common.{sym}
use Rattle.std.proofs.lemmas.Result.{err_from_is_err_and}
use Rattle.front.specs.FrontLaws.{front_fact}
use Rattle.front.proofs.read_front.Goals as goal

pub returns-in_err-counts : goal.returns-in_err-counts
returns-in_err-counts c =
    let p = err_from_is_err_and c.from_residual.result c.from_residual.ensures.1 in
    let e = c.in_err-counts.ensures in
    rw (p.1, p.2) (rw (sym e) at (front_fact c.args.width c.args.s.now c.args.cursor.at))

pub returns-in_err-past : goal.returns-in_err-past
returns-in_err-past c =
    let p = err_from_is_err_and c.from_residual-in_err-past.result c.from_residual-in_err-past.ensures.1 in
    let e = c.in_ok-counts.ensures in
    let n = c.in_err-past.ensures in
    rw (p.1, p.2) (rw (sym e, sym n) at (front_fact c.args.width c.args.s.now c.args.cursor.at))

pub returns : goal.returns
returns c =
    let e = c.in_ok-counts.ensures in
    let n = c.in_ok-past.ensures in
    rw (sym e, sym n) at (front_fact c.args.width c.args.s.now c.args.cursor.at)
