use Rattle.definitions.specs.Retiring.{retiring_done}
use native.Mathlib.Omega.{arith}
use Rattle.definitions.proofs.retire_marked.Goals as goal

pub returns : goal.returns
returns c =
    λ arena names f n.
    let a = c.args in
    retiring_done a.table.now arena names f a.marks c.loop-k.k c.loop-k.table n c.loop-k.invariant (omega arith)
