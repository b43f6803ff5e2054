use Rattle.definitions.specs.Exporting.{Exporting}
use Rattle.definitions.proofs.export.Given as goal

abbrev pub invariant-loop-k : goal.invariant-loop-k
invariant-loop-k l = Exporting l.table l.arena l.initial.out l.k l.at l.out
