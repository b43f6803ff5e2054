use Rattle.std.proofs.Common.{suc, arith}
use Rattle.std.proofs.Math.Nat.{le_trans}
use Rattle.units.specs.Marks.{unit_place, place_up}
use Rattle.units.proofs.outputs.outputs_behind.Goals as goal

pub unit_end-at-requires : goal.unit_end-at-requires
unfolding unit_place
unit_end-at-requires c =
    let a = c.args in
    rw c.loop.invariant (le_trans (place_up a.width a.s.now a.start (suc c.loop.counter) (suc a.unit) (omega arith)) c.requires)
