use Rattle.std.proofs.Common.{◌-◌, ◌≡◌, length}
use Rattle.units.specs.Units.{Standing}
use Rattle.units.proofs.run.read_marked.Given as goal

abbrev pub invariant-loop-i : goal.invariant-loop-i
invariant-loop-i l = Standing l.scope.width l.scope.constants l.s l.scope.start l.count l.outs l.scope.stride l.marks l.known l.here.at l.i l.fields × (length l.marks ≡ length l.initial.marks)

abbrev pub decreases-loop-i : goal.decreases-loop-i
decreases-loop-i l = l.count - l.i
