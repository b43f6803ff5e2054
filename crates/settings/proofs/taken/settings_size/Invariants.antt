use Rattle.settings.specs.OwnFieldsLaws.{Sizing}
use Rattle.settings.proofs.taken.settings_size.Given as goal

abbrev pub invariant-loop-i : goal.invariant-loop-i
invariant-loop-i l = Sizing l.definition l.count l.i l.size
