use Rattle.std.proofs.Common.{arith}
use Rattle.messages.specs.Entries.{address_none}
use Rattle.messages.proofs.table.address_of.Goals as goal

pub returns-in_default : goal.returns-in_default
returns-in_default c = rw (address_none c.args.op (λ some. omega arith)) c.row-in_default.ensures
