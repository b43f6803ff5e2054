-- `tree::deep::deep_free` meets its contract: what the sweep leaves, then what the removal leaves of it.
use Prim.Native.Nat.{◌+◌, ◌*◌}
use native.Mathlib.Omega.{arith}
use lib.ListN.{get_or}
use Rattle.nodes.specs.Table.{width, rows, depth_field}
use Rattle.nodes.specs.Edit.{edit_at, deep_free_here}
use Rattle.tree.specs.Sweep.{Ends, swept_ends}
use Rattle.tree.specs.Deep.{left_leaves, deep_at}
use Rattle.tree.proofs.deep.deep_free.Goals as goal

pub remove-requires : goal.remove-requires
remove-requires c =
    let a = c.args in
    let ends : Ends a.nodes.now a.count (a.at + 1) c.sweep-rest.new.nodes c.sweep-rest.result.read c.sweep-rest.result.write =
    swept_ends (omega arith) (omega arith) (omega arith) c.sweep-rest.ensures in
    (omega arith, (omega arith, omega arith))

pub returns : goal.returns
returns c =
    let a = c.args in
    let us = a.nodes.now in
    let n = a.count in
    let depth = get_or us (width * a.at + depth_field) 0 in
    let read = c.sweep-rest.result.read in
    let write = c.sweep-rest.result.write in
    let s = c.sweep-rest.ensures in
    left_leaves us c.sweep-rest.new.nodes n (a.at + 1) depth read write (omega arith) (omega arith) s (edit_at a.at deep_free_here (rows n us)) c.remove.new.nodes c.remove.result
    (deep_at us n a.at read (omega arith) s.past) c.remove.ensures
