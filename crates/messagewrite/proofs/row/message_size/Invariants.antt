use Rattle.std.proofs.Common.{◌≡◌, ◌+◌, ◌≤◌, drop}
use Rattle.messages.specs.Rows.{slots_of}
use Rattle.messagewrite.specs.Slots.{sizes}
use Rattle.messagewrite.specs.Whole.{whole_size}
use Rattle.messagewrite.proofs.row.message_size.Given as goal

abbrev pub invariant-loop-k : goal.invariant-loop-k
invariant-loop-k l = (l.at ≤ l.room) × (l.at + sizes (drop l.k (slots_of l.op)) l.size ≡ whole_size l.op l.size)
