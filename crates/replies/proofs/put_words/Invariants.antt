use Rattle.std.proofs.Common.{◌≡◌, length, take}
use Rattle.words.specs.Parts.{over}
use Rattle.replies.specs.Words.{word_bytes}
use Rattle.replies.proofs.put_words.Given as goal

abbrev pub invariant-loop-i : goal.invariant-loop-i
invariant-loop-i l = (l.out ≡ over l.at (word_bytes (take l.i l.words)) l.initial.out) × (length l.out ≡ length l.initial.out)
