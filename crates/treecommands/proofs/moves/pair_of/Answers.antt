-- `treecommands::moves::pair_of` meets its contract: each argument as it was judged.
use Rattle.std.proofs.lemmas.Result.{err_from_is_err_and}
use Rattle.treecommands.specs.Sighting.{first_refused, second_refused}
use Rattle.treecommands.proofs.moves.pair_of.Goals as goal

pub returns-in_err-a : goal.returns-in_err-a
returns-in_err-a c =
    let a = c.args in
    let p = err_from_is_err_and c.from_residual.result c.from_residual.ensures.1 in
    rw (p.1, p.2) (first_refused a.first a.second a.words.now _ c.in_err-a.ensures)

pub returns-in_err-b : goal.returns-in_err-b
returns-in_err-b c =
    let a = c.args in
    let p = err_from_is_err_and c.from_residual-in_err-b.result c.from_residual-in_err-b.ensures.1 in
    rw (p.1, p.2) (second_refused a.first a.second a.words.now _ _ c.in_ok-a.ensures c.in_err-b.ensures)
