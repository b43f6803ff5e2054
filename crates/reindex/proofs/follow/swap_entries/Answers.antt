use Prim.Native.Nat.{◌<◌}
use native.Mathlib.Omega.{arith}
use lib.ListN.{length, get_or}
use Rattle.reindex.specs.FollowWords.{follow_first, read_low, follow_kept}
use Rattle.reindex.specs.Edits.{swapped, swapped_low}
use Rattle.reindex.proofs.follow.swap_entries.Goals as goal

pub loop-i-init : goal.loop-i-init
loop-i-init c =
    let a = c.args in
    follow_first (swapped a.runs.a a.runs.b a.runs.c) a.index.now

pub swapped_place-requires : goal.swapped_place-requires
swapped_place-requires c =
    let a = c.args in
    let l = c.loop-i in
    let e = c.requires in
    read_low (swapped a.runs.a a.runs.b a.runs.c) a.index.now l.index l.i l.i (omega (arith, e.many)) (omega arith) l.invariant a.count e (omega arith)

pub loop-i-preserved : goal.loop-i-preserved
loop-i-preserved c =
    let a = c.args in
    let l = c.loop-i in
    let r = a.runs in
    let e = c.requires in
    let w = a.index.now in
    let to = swapped r.a r.b r.c in
    let v = c.swapped_place in
    let long : l.i < length w = omega (arith, e.many) in
    let low = read_low to w l.index l.i l.i long (omega arith) l.invariant a.count e (omega arith) in
    let kept = swapped_low r.a r.b r.c (get_or l.index l.i 0) r.first r.second r.end low in
    follow_kept to w l.index l.i l.i long (omega arith) l.invariant v.result v.ensures (omega arith)
