use Rattle.std.proofs.Common.{ℕ, ◌+◌, ◌-◌, ◌≡◌}
use Rattle.format.specs.Read.{ending}
use Rattle.format.specs.Reader.{units_by}
use Rattle.units.specs.Units.{outs_from, UnitsRead}
use Rattle.units.proofs.run.read_run.Given as goal

abbrev pub invariant-loop-i : goal.invariant-loop-i
invariant-loop-i l =
    UnitsRead l.scope.width l.s l.scope.start l.outs l.scope.stride l.marks l.here.at l.i l.fields
    × ((n : ℕ) → ending (units_by l.scope.width l.scope.constants l.s ((l.to - l.i) + n) (outs_from l.scope.width l.s l.scope.start l.i) l.here.at) ≡ ending (units_by l.scope.width l.scope.constants l.s ((l.to - l.from) + n) (outs_from l.scope.width l.s l.scope.start l.from) l.initial.here.at))
