use Rattle.synthdef.specs.Reading.{Writing}
use Rattle.synthdef.proofs.twin.write_twin.Given as goal

abbrev pub invariant-loop : goal.invariant-loop
invariant-loop l = Writing l.file l.count l.counter l.at l.to l.initial.out l.out
