use Rattle.std.proofs.Common.{◌-◌, ◌/◌, sym, arith, length}
use Rattle.format.specs.RepeatLaws.{floats_cut}
use Rattle.front.proofs.skip_floats.Goals as goal

pub returns : goal.returns
returns c =
    let a = c.args in
    let room = (length a.s.now - a.cursor.at) / 4 in
    sym (floats_cut a.s.now room a.count a.cursor.at (omega arith) (omega arith) (omega arith))
