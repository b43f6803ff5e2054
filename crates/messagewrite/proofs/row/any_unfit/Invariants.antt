use Rattle.std.proofs.Common.{◌≡◌, drop}
use Rattle.messages.specs.Write.{any_unfit}
use Rattle.messages.specs.Rows.{slots_of}
use Rattle.messagewrite.proofs.row.any_unfit.Given as goal

abbrev pub invariant-loop-k : goal.invariant-loop-k
invariant-loop-k l = any_unfit l.bytes (drop l.k (slots_of l.op)) ≡ any_unfit l.bytes (slots_of l.op)
