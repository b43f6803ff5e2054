use Rattle.std.proofs.Common.{refl, arith}
use Rattle.units.specs.Units.{stood_first}
use Rattle.units.proofs.run.read_few.Goals as goal

pub read_run-requires : goal.read_run-requires
read_run-requires c = (omega arith, stood_first c.args.width c.args.s.now c.args.cursor.at c.args.outs.now 1 _ c.requires (omega arith) refl)
