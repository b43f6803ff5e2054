use Rattle.messageread.specs.EndLaws.{Passed}
use Rattle.messageread.proofs.cursor.text_end.Given as goal

abbrev pub invariant-loop-i : goal.invariant-loop-i
invariant-loop-i l = Passed l.message l.at l.i
