-- `tree::change::cut` meets its contract: what is removed is the node's run.
use Prim.Native.Nat.{◌+◌, ◌*◌}
use mathlib.Core.Path.{refl}
use native.Mathlib.Omega.{arith}
use lib.ListN.{get_or}
use Rattle.nodes.specs.Table.{width, depth_field}
use Rattle.nodes.specs.PlaceLaws.{end_most}
use Rattle.nodes.specs.Split.{cut_at}
use Rattle.tree.proofs.change.cut.Goals as goal

pub remove-requires : goal.remove-requires
remove-requires c =
    let a = c.args in
    omega (arith, end_most a.count a.nodes.now (get_or a.nodes.now (width * a.at + depth_field) 0) (a.at + 1) (omega arith))

pub returns : goal.returns
returns c =
    let a = c.args in
    let us = a.nodes.now in
    let d = get_or us (width * a.at + depth_field) 0 in
    rw (cut_at a.count us a.at (omega arith) d c.subtree_end-end.result refl c.subtree_end-end.ensures) c.remove.ensures
