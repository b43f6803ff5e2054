-- `calls::command_of` meets its contract past the last op: no other number is one.
use Rattle.std.proofs.Common.{arith}
use Rattle.calls.specs.OpsLaws.{op_past}
use Rattle.calls.proofs.command_of.Goals as goal

pub returns-in_default : goal.returns-in_default
returns-in_default c =
    let n = c.args.numbers in
    op_past n.op n.a n.b n.c n.d n.e (λ some. omega arith)
