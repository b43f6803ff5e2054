use Rattle.treequery.specs.Filling.{Filling}
use Rattle.treequery.proofs.shapes.look_up.Given as goal

abbrev pub invariant-loop-j : goal.invariant-loop-j
invariant-loop-j l = Filling l.slot l.initial.shapes l.shapes l.places l.j
