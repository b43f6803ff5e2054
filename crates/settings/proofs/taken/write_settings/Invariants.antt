use Rattle.settings.specs.OwnFieldsLaws.{Filling}
use Rattle.settings.proofs.taken.write_settings.Given as goal

abbrev pub invariant-loop-i : goal.invariant-loop-i
invariant-loop-i l = Filling l.definition l.row l.count l.i l.at l.out
