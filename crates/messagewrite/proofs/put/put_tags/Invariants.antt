use Rattle.std.proofs.Common.{ℕ, ◌≡◌, List, length, take}
use Rattle.osc.specs.Message.{tags}
use Rattle.words.specs.Parts.{over}
use Rattle.messages.specs.Rows.{slots_of}
use Rattle.messages.specs.Table.{give_all}
use Rattle.messagewrite.specs.Codes.{given}
use Rattle.messagewrite.proofs.put.put_tags.Given as goal

abbrev pub invariant-loop-k : goal.invariant-loop-k
invariant-loop-k l = ((bytes : List ℕ) → l.out ≡ over l.at (tags (take l.k (give_all (slots_of l.numbers.op) (given l.numbers bytes)))) l.initial.out) × (length l.out ≡ length l.initial.out)
