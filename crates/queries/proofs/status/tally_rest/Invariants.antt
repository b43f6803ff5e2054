use Rattle.queries.specs.Tally.{Tallied}
use Rattle.queries.proofs.status.tally_rest.Given as goal

abbrev pub invariant-loop-i : goal.invariant-loop-i
invariant-loop-i l = Tallied l.words l.from l.i l.counts
