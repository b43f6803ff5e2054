use Rattle.std.proofs.Common.{sym}
use Rattle.std.proofs.lemmas.Result.{err_from_is_err_and}
use Rattle.files.specs.FileLaws.{file_head, file_bad, file_left, file_accepted}
use Rattle.files.proofs.file.check_file.Goals as goal

pub returns-in_err-count : goal.returns-in_err-count
returns-in_err-count c =
    let p = err_from_is_err_and c.from_residual.result c.from_residual.ensures.1 in
    rw (p.1, p.2) (sym (file_head c.args.s.now (sym c.in_err-count.ensures)))

pub returns-in_err-end : goal.returns-in_err-end
returns-in_err-end c =
    let p = err_from_is_err_and c.from_residual-in_err-end.result c.from_residual-in_err-end.ensures.1 in
    let read = rw c.width_of.ensures at c.in_err-end.ensures in
    rw (p.1, p.2) (sym (file_bad c.args.s.now (sym c.in_ok-count.ensures) (sym read)))

pub returns-then-end-s : goal.returns-then-end-s
returns-then-end-s c =
    let read = rw c.width_of.ensures at c.in_ok-end.ensures in
    sym (file_left c.args.s.now (sym c.in_ok-count.ensures) (sym read) c.if-end-s.true)

pub returns : goal.returns
returns c =
    let read = rw c.width_of.ensures at c.in_ok-end.ensures in
    sym (file_accepted c.args.s.now (sym c.in_ok-count.ensures) (sym read) c.if-end-s.false)
