use Rattle.std.proofs.Common.{arith}
use Rattle.messageread.specs.FindLaws.{op_past}
use Rattle.messageread.proofs.address.first_op.Goals as goal

pub returns-in_default : goal.returns-in_default
returns-in_default c = op_past c.args.key (omega arith)
