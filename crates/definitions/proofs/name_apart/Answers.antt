use Rattle.definitions.specs.Checking.{resident_end}
use mathlib.Core.Bool.{not}
use mathlib.Core.Path.{sym, ap, ◌∙◌}
use native.Mathlib.Omega.{arith}
use Rattle.definitions.proofs.name_apart.Goals as goal

pub returns : goal.returns
returns c =
    let a = c.args in
    ap not (sym (resident_end a.table.now a.arena.now a.name.now c.loop-k.k (omega arith)) ∙ c.loop-k.invariant)
