use Rattle.std.proofs.Common.{sym, arith}
use Rattle.messages.specs.Entries.{slot_past}
use Rattle.messages.proofs.table.slot_at.Goals as goal

pub returns-in_default : goal.returns-in_default
returns-in_default c = sym (slot_past c.args.op c.args.k (omega arith))
