-- `lists::run::run` meets its contract.
use Rattle.lists.specs.Running.{Running}
use Rattle.lists.proofs.run.run.Given as goal

abbrev pub invariant-loop-i : goal.invariant-loop-i
invariant-loop-i l = Running l.items l.bytes l.initial.words l.initial.arena l.i l.words l.arena
