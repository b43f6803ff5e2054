use Rattle.std.proofs.Common.{refl, arith}
use Rattle.messages.specs.Entries.{slots_none}
use Rattle.messages.proofs.table.slots_of.Goals as goal

pub returns-in_default : goal.returns-in_default
returns-in_default c = rw (slots_none c.args.op (λ some. omega arith)) refl
