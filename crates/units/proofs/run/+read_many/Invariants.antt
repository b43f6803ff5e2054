use Rattle.units.proofs.run.+read_many.Given as goal

abbrev pub decreases-read_many : goal.decreases-read_many
decreases-read_many l = l.most
