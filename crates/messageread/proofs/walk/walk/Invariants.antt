use Rattle.messageread.specs.WalkLaws.{Walking}
use Rattle.messageread.proofs.walk.walk.Given as goal

abbrev pub invariant-loop-k : goal.invariant-loop-k
invariant-loop-k l = Walking l.message l.tags l.fn.from.at l.op l.kept l.at.at l.k
