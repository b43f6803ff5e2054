-- `reindex::follow::close_entries` meets its contract. The invariant: the entries gone over are followed.
use Prim.Native.Nat.{◌≤◌}
use Rattle.reindex.specs.FollowWords.{Followed}
use Rattle.reindex.specs.Edits.{closed}
use Rattle.reindex.proofs.follow.close_entries.Given as goal

abbrev pub invariant-loop-i : goal.invariant-loop-i
invariant-loop-i l = (l.left ≤ l.i) × Followed (closed l.run.from l.run.to l.by) l.initial.index l.i l.index l.left
