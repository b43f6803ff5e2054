use Prim.Native.Nat.{◌<◌}
use native.Mathlib.Omega.{arith}
use lib.ListN.{length, get_or}
use Rattle.reindex.specs.FollowWords.{follow_first, follow_read, read_low, follow_kept}
use Rattle.reindex.specs.Edits.{closed, closed_low}
use Rattle.reindex.proofs.one.open_entries.Goals as goal

pub loop-i-init : goal.loop-i-init
loop-i-init c =
    let a = c.args in
    follow_first (closed a.at a.at 1) a.index.now

pub closed_place-requires : goal.closed_place-requires
closed_place-requires c =
    let a = c.args in
    let l = c.loop-i in
    let e = c.requires.1 in
    (omega arith, read_low (closed a.at a.at 1) a.index.now l.index l.i l.i (omega (arith, e.many)) (omega arith) l.invariant a.count e (omega arith))

pub loop-i-preserved : goal.loop-i-preserved
loop-i-preserved c =
    let a = c.args in
    let l = c.loop-i in
    let e = c.requires.1 in
    let w = a.index.now in
    let to = closed a.at a.at 1 in
    let v = c.closed_place in
    let long : l.i < length w = omega (arith, e.many) in
    let read = follow_read to w l.index l.i l.i long (omega arith) l.invariant in
    let low = closed_low a.at a.at 1 (get_or l.index l.i 0) (omega (arith, read, e.below l.i (omega arith))) (λ h k. omega arith) in
    follow_kept to w l.index l.i l.i long (omega arith) l.invariant v.result v.ensures (omega arith)
