-- `reindex::follow::swap_entries` meets its contract. The invariant: the entries gone over are followed, and all are left.
use Rattle.reindex.specs.FollowWords.{Followed}
use Rattle.reindex.specs.Edits.{swapped}
use Rattle.reindex.proofs.follow.swap_entries.Given as goal

abbrev pub invariant-loop-i : goal.invariant-loop-i
invariant-loop-i l = Followed (swapped l.runs.a l.runs.b l.runs.c) l.initial.index l.i l.index l.i
