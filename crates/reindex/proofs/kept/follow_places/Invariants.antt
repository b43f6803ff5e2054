-- `reindex::kept::follow_places` meets its contract. The invariant: the entries gone over are followed.
use Prim.Native.Nat.{◌≤◌}
use Rattle.reindex.specs.FollowWords.{Followed}
use Rattle.reindex.specs.Kept.{place_in}
use Rattle.reindex.proofs.kept.follow_places.Given as goal

abbrev pub invariant-loop-i : goal.invariant-loop-i
invariant-loop-i l = (l.left ≤ l.i) × Followed (place_in l.places) l.initial.index l.i l.index l.left
