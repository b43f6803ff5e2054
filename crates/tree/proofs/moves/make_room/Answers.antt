-- `tree::moves::make_room` meets its contract: both ways of moving what is between.
use native.Mathlib.Omega.{arith}
use Rattle.tree.specs.Moves.{opened_up, opened_down}
use Rattle.tree.proofs.moves.make_room.Goals as goal

pub returns-then-at-from : goal.returns-then-at-from
returns-then-at-from c =
    let a = c.args in
    rw c.copy_within.ensures.after (opened_up a.words.now a.from a.to a.at (omega arith) (omega arith) (omega arith))

pub returns-else-at-from : goal.returns-else-at-from
returns-else-at-from c =
    let a = c.args in
    rw c.copy_within-else-at-from.ensures.after (opened_down a.words.now a.from a.to a.at (omega arith) (omega arith) (omega arith) (omega arith))
