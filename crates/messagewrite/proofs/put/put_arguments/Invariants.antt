use Prim.Native.Nat.{◌+◌, ◌≤◌}
use mathlib.Core.Bool.{false}
use mathlib.Core.Path.{◌≡◌}
use lib.ListN.{length, take, drop}
use Rattle.osc.specs.Message.{arguments}
use Rattle.words.specs.Parts.{over}
use Rattle.messages.specs.Table.{give_all}
use Rattle.messages.specs.Write.{any_unfit}
use Rattle.messages.specs.Rows.{slots_of}
use Rattle.messagewrite.specs.Codes.{given}
use Rattle.messagewrite.specs.Slots.{sizes}
use Rattle.messagewrite.proofs.put.put_arguments.Given as goal

abbrev pub invariant-loop-k : goal.invariant-loop-k
invariant-loop-k l =
    (l.out ≡ over l.start (arguments (take l.k (give_all (slots_of l.numbers.op) (given l.numbers l.bytes)))) l.initial.out)
    × (length l.out ≡ length l.initial.out)
    × (l.at ≡ l.start + length (arguments (take l.k (give_all (slots_of l.numbers.op) (given l.numbers l.bytes)))))
    × (l.at + sizes (drop l.k (slots_of l.numbers.op)) (length l.bytes) ≤ length l.initial.out)
    × (any_unfit l.bytes (drop l.k (slots_of l.numbers.op)) ≡ false)
