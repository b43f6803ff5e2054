use Rattle.definitions.specs.Retiring.{Retiring}
use Rattle.definitions.proofs.retire_marked.Given as goal

abbrev pub invariant-loop-k : goal.invariant-loop-k
invariant-loop-k l = Retiring l.initial.table l.marks l.k l.table
