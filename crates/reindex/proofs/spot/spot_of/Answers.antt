use Prim.Native.Nat.{◌*◌}
use native.Mathlib.Omega.{arith}
use lib.ListN.{get_or}
use Rattle.nodes.specs.Table.{width}
use Rattle.reindex.specs.Spot.{between_met}
use Rattle.reindex.proofs.spot.spot_of.Goals as goal

pub returns : goal.returns
returns c =
    let a = c.args in
    between_met a.nodes.now a.index.now a.count (get_or a.nodes.now (width * a.at) 0) c.requires.0 c.loop-low.low c.loop-low.high c.loop-low.invariant.0 (omega arith) c.loop-low.invariant.1
