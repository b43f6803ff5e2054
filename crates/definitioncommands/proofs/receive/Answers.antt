-- `definitioncommands::receive` meets its contract: a fault of the file with its place, refusal 12, or the file loaded.
use Rattle.std.proofs.lemmas.Result.{err_from_is_err_and}
use Rattle.format.specs.Reader.{read_file}
use Rattle.definitioncommands.specs.Steps.{verdict_bad, verdict_got, receive_fault}
use Rattle.definitioncommands.proofs.receive.Goals as goal

pub returns-in_err-count : goal.returns-in_err-count
returns-in_err-count c =
    let a = c.args in
    let p = err_from_is_err_and c.from_residual.result c.from_residual.ensures.1 in
    rw (p.1, p.2) (receive_fault a.bytes.now a.words.now a.arena.now _ _ (verdict_bad (read_file a.bytes.now) _ c.in_err-count.ensures))

pub load_file-requires : goal.load_file-requires
load_file-requires c = (c.requires, verdict_got (read_file c.args.bytes.now) c.in_ok-count.count c.in_ok-count.ensures)
