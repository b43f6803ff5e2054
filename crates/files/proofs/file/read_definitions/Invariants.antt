use Rattle.std.proofs.Common.{◌≡◌, length}
use Rattle.units.specs.Units.{remembered}
use Rattle.files.specs.FileLaws.{Walked}
use Rattle.files.proofs.file.read_definitions.Given as goal

abbrev pub invariant-loop-i : goal.invariant-loop-i
invariant-loop-i l = Walked l.width l.s l.initial.here.at l.count l.starts l.here.at l.i × (length l.outs ≡ remembered)
