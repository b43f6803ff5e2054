use Rattle.std.proofs.Common.{◌<◌, length, arith}
use Rattle.reindex.specs.FollowWords.{follow_first, read_low, follow_gone, follow_kept}
use Rattle.reindex.specs.Edits.{closed}
use Rattle.reindex.proofs.follow.close_entries.Goals as goal
use Rattle.reindex.proofs.follow.close_entries.Goals.{then-place-lt-GONE, else-place-lt-GONE}

pub loop-i-init : goal.loop-i-init
loop-i-init c =
    let a = c.args in
    (omega arith, follow_first (closed a.run.from a.run.to a.by) a.index.now)

pub closed_place-place-requires : goal.closed_place-place-requires
closed_place-place-requires c =
    let a = c.args in
    let l = c.loop-i in
    let e = c.requires.1 in
    (c.requires.0, read_low (closed a.run.from a.run.to a.by) a.index.now l.index l.i l.left (omega (arith, e.many)) l.invariant.0 l.invariant.1 a.count e (omega arith))

pub loop-i-preserved : goal.loop-i-preserved
loop-i-preserved c =
    let a = c.args in
    let w = a.index.now in
    let l = c.loop-i in
    let to = closed a.run.from a.run.to a.by in
    let v = c.closed_place-place in
    let long : l.i < length w = omega (arith, c.requires.1.many) in
    elim c.if-place-lt-GONE.branch [
      | then-place-lt-GONE b ↦ (omega arith, rw (b.index-is, b.left-is) (follow_kept to w l.index l.i l.left long l.invariant.0 l.invariant.1 v.result v.ensures b.if-place-lt-GONE.true))
      | else-place-lt-GONE b ↦ (omega arith, rw (b.index-is, b.left-is) (follow_gone to w l.index l.i l.left long l.invariant.0 l.invariant.1 v.result v.ensures b.if-place-lt-GONE.false))
    ]
