-- `osc::put_padded` meets its contract. The invariant: so many groups of four bytes of the padded string are written; the last is `over_last`.
use Prim.Native.Nat.{◌-◌, ◌%◌, ◌≤◌}
use mathlib.Core.Path.{◌≡◌}
use lib.ListN.{length, take}
use Rattle.osc.specs.Message.{padded}
use Rattle.words.specs.Parts.{over}
use Rattle.osc.proofs.put_padded.Given as goal

abbrev pub invariant-loop-i : goal.invariant-loop-i
invariant-loop-i l = (l.i ≤ length l.bytes) × (l.i % 4 ≡ 0) × (length l.out ≡ length l.initial.out) × (l.out ≡ over l.at (take l.i (padded l.bytes)) l.initial.out)

abbrev pub decreases-loop-i : goal.decreases-loop-i
decreases-loop-i l = length l.bytes - l.i
