use Rattle.queries.specs.Tally.{Summed}
use Rattle.queries.proofs.status.units_held.Given as goal

abbrev pub invariant-loop-k : goal.invariant-loop-k
invariant-loop-k l = Summed l.words l.arena l.k l.left l.units
