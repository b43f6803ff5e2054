use Rattle.queries.specs.Tally.{PartsTallied}
use Rattle.queries.proofs.status.tally_parts.Given as goal

abbrev pub invariant-loop-i : goal.invariant-loop-i
invariant-loop-i l = PartsTallied l.words l.part l.i l.counts
