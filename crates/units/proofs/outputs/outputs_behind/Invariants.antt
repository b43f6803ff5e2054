use Rattle.std.proofs.Common.{◌≡◌}
use Rattle.units.specs.Marks.{unit_place}
use Rattle.units.proofs.outputs.outputs_behind.Given as goal

abbrev pub invariant-loop : goal.invariant-loop
invariant-loop l = l.at ≡ unit_place l.width l.s l.start l.counter
