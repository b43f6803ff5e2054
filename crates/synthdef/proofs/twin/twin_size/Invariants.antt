use Rattle.synthdef.specs.Reading.{Reading}
use Rattle.synthdef.proofs.twin.twin_size.Given as goal

abbrev pub invariant-loop : goal.invariant-loop
invariant-loop l = Reading l.file l.count l.counter l.at l.size
