use Rattle.std.proofs.Common.{◌≤◌, length}
use Rattle.messages.specs.Rows.{slots_of}
use Rattle.messagewrite.proofs.row.slot_count.Given as goal

abbrev pub invariant-loop-k : goal.invariant-loop-k
invariant-loop-k l = l.k ≤ length (slots_of l.op)
