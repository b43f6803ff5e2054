use Rattle.std.proofs.Common.{suc, arith}
use Rattle.std.proofs.Math.Nat.{le_trans}
use Rattle.units.specs.Marks.{unit_place, place_up}
use Rattle.units.proofs.unit.read_input.Goals as goal

pub far_outputs-requires : goal.far_outputs-requires
unfolding unit_place
far_outputs-requires c =
    let a = c.args in
    (le_trans (place_up a.scope.width a.s.now a.scope.start (suc c.in_ok-unit.unit) a.units (omega arith)) (c.requires.within (omega arith)), c.requires.marked)
