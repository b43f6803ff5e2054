-- `reindex::one::cut_entry` meets its contract. The invariants: the entries gone over are followed; first all are left, then all but one.
use Prim.Native.Nat.{◌+◌, ◌-◌}
use Rattle.reindex.specs.FollowWords.{Followed}
use Rattle.reindex.specs.Edits.{closed}
use Rattle.reindex.proofs.one.cut_entry.Given as goal

abbrev pub invariant-loop-i : goal.invariant-loop-i
invariant-loop-i l = Followed (closed l.at (l.at + 1) 0) l.initial.index l.i l.index l.i

abbrev pub invariant-loop-i-2 : goal.invariant-loop-i-2
invariant-loop-i-2 l = Followed (closed l.at (l.at + 1) 0) l.fn.index l.i l.index (l.i - 1)
