use Rattle.std.proofs.Common.{◌≡◌, ◌+◌, ◌-◌, arith}
use Rattle.reindex.specs.FollowWords.{follow_first}
use Rattle.reindex.specs.Edits.{closed}
use Rattle.reindex.specs.OneEntry.{spot_goes, other_read, other_stays}
use Rattle.reindex.proofs.one.cut_entry.Goals as goal

pub loop-i-init : goal.loop-i-init
loop-i-init c =
    let a = c.args in
    follow_first (closed a.at (a.at + 1) 0) a.index.now

pub lowered_place-requires : goal.lowered_place-requires
lowered_place-requires c =
    let a = c.args in
    other_read a.index.now a.count a.spot a.at c.requires c.loop-i.index c.loop-i.i c.loop-i.i (omega (arith, c.requires.inside)) (omega arith) (omega arith) c.loop-i.invariant

pub loop-i-preserved : goal.loop-i-preserved
loop-i-preserved c =
    let a = c.args in
    other_stays a.index.now a.count a.spot a.at c.requires c.loop-i.index c.loop-i.i c.loop-i.i (omega (arith, c.requires.inside)) (omega arith) (omega arith) c.loop-i.invariant c.lowered_place.result c.lowered_place.ensures

pub loop-i-2-init : goal.loop-i-2-init
loop-i-2-init c =
    let a = c.args in
    let all : c.loop-i.i ≡ a.spot = omega arith in
    let back : a.spot + 1 - 1 ≡ a.spot = omega arith in
    rw back (spot_goes a.index.now a.count a.spot a.at c.requires c.loop-i.index (rw all at c.loop-i.invariant))

pub lowered_place-requires-in-loop-i-2 : goal.lowered_place-requires-in-loop-i-2
lowered_place-requires-in-loop-i-2 c =
    let a = c.args in
    other_read a.index.now a.count a.spot a.at c.requires c.loop-i-2.index c.loop-i-2.i (c.loop-i-2.i - 1) (omega arith) (omega arith) (omega arith) c.loop-i-2.invariant

pub loop-i-2-preserved : goal.loop-i-2-preserved
loop-i-2-preserved c =
    let a = c.args in
    let i = c.loop-i-2.i in
    let back : i + 1 - 1 ≡ i - 1 + 1 = omega arith in
    rw back (other_stays a.index.now a.count a.spot a.at c.requires c.loop-i-2.index i (i - 1) (omega arith) (omega arith) (omega arith) c.loop-i-2.invariant c.lowered_place-in-loop-i-2.result c.lowered_place-in-loop-i-2.ensures)
