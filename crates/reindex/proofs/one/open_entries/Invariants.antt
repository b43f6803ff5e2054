-- `reindex::one::open_entries` meets its contract. The invariant: the entries gone over are followed, and all are left.
use Rattle.reindex.specs.FollowWords.{Followed}
use Rattle.reindex.specs.Edits.{closed}
use Rattle.reindex.proofs.one.open_entries.Given as goal

abbrev pub invariant-loop-i : goal.invariant-loop-i
invariant-loop-i l = Followed (closed l.at l.at 1) l.initial.index l.i l.index l.i
