use Rattle.std.proofs.Common.{sym, arith}
use Rattle.std.proofs.lemmas.Result.{err_from_is_err_and}
use Rattle.files.specs.FileLaws.{walked_next, walked_bad, walked_done}
use Rattle.files.proofs.file.read_definitions.Goals as goal

pub returns-in_err-next : goal.returns-in_err-next
returns-in_err-next c =
    let a = c.args in
    let p = err_from_is_err_and c.from_residual.result c.from_residual.ensures.1 in
    rw (p.1, p.2) (sym (walked_bad a.width a.s.now a.cursor.at a.count c.loop-i.invariant.0 (omega arith) (sym c.in_err-next.ensures.0)))

pub loop-i-preserved : goal.loop-i-preserved
loop-i-preserved c =
    let a = c.args in
    (walked_next a.width a.s.now a.cursor.at a.count c.loop-i.invariant.0 (omega arith) (sym c.in_ok-next.ensures.0), c.read_fitting.ensures.1)

pub returns : goal.returns
returns c =
    let a = c.args in
    sym (walked_done a.width a.s.now a.cursor.at a.count c.loop-i.invariant.0 (omega arith))
