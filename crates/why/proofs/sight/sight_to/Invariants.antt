-- `why::sight::sight_to` meets its contract. The invariant: what was seen is what the rows so far show.
use Rattle.why.specs.Seen.{SeenBefore}
use Rattle.why.proofs.sight.sight_to.Given as goal

abbrev pub invariant-loop-i : goal.invariant-loop-i
invariant-loop-i l = SeenBefore l.nodes l.i l.seen
