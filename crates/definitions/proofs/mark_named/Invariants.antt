use Rattle.definitions.specs.Names.{Marking}
use Rattle.definitions.proofs.mark_named.Given as goal

abbrev pub invariant-loop-k : goal.invariant-loop-k
invariant-loop-k l = Marking l.table l.arena l.name l.initial.named l.k l.named
