-- `lists::judged::judge` meets its contract.
use Rattle.lists.specs.Judging.{Judging}
use Rattle.lists.proofs.judged.judge.Given as goal

abbrev pub invariant-loop-i : goal.invariant-loop-i
invariant-loop-i l = Judging l.items l.room l.i l.fit
