use Rattle.std.proofs.Common.{arith}
use Rattle.order.specs.Tables.{rows_of}
use Rattle.order.specs.Marks.{pass_none}
use Rattle.order.proofs.Table.rows_apart.Goals as goal

pub loop-i-init : goal.loop-i-init
loop-i-init c = pass_none 256 (rows_of c.args.self) (omega arith)
