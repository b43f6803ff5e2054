use Prim.Native.Nat.{◌+◌, ◌*◌, ◌<◌}
use mathlib.Core.Path.{◌≡◌}
use native.Mathlib.Omega.{arith}
use lib.ListN.{length, get_or}
use Rattle.tree.specs.Sweep.{swept_end, swept_stop, swept_synth, swept_group, Ends, swept_ends, copied_length}
use Rattle.nodes.specs.Table.{width, node_from, depth_field}
use Rattle.tree.proofs.deep.+sweep.Goals as goal

pub returns-then-level-depth : goal.returns-then-level-depth
returns-then-level-depth t c =
    let a = c.args in
    let now = c.loop-read.nodes in
    c.loop-read.invariant.4 now c.loop-read.read c.loop-read.write (swept_stop now a.count c.loop-read.read c.loop-read.write a.depth (omega arith) c.if-level-depth.true)

pub loop-read-preserved-then-nodes-read-eq-GROUP :
    goal.loop-read-preserved-then-nodes-read-eq-GROUP
loop-read-preserved-then-nodes-read-eq-GROUP t c =
    let a = c.args in
    let now = c.loop-read.nodes in
    let read = c.loop-read.read in
    let write = c.loop-read.write in
    let e = c.sweep-next in
    let vs = c.copy_record.new.nodes in
    let same : length vs ≡ length now = copied_length now vs write (node_from now (width * read)) c.copy_record.ensures (omega arith) in
    let ends : Ends vs a.count (read + 1) e.new.nodes e.result.read e.result.write = swept_ends (omega arith) (omega arith) (omega arith) e.ensures in
    let deep : a.depth < get_or now (width * read + depth_field) 0 = omega arith in (
      omega arith,
      omega arith,
      omega arith,
      omega arith,
      λ ws r w s. c.loop-read.invariant.4 ws r w
          (swept_group now a.count read write a.depth (omega arith) deep c.if-nodes-read-eq-GROUP.true (omega arith) (omega arith) vs e.new.nodes e.result.read e.result.write c.copy_record.ensures e.ensures ws r w s),
    )

pub loop-read-preserved : goal.loop-read-preserved
loop-read-preserved t c =
    let a = c.args in
    let now = c.loop-read.nodes in
    let deep : a.depth < get_or now (width * c.loop-read.read + depth_field) 0 = omega arith in (
      omega arith,
      omega arith,
      omega arith,
      c.loop-read.invariant.3,
      λ ws r w s. c.loop-read.invariant.4 ws r w (swept_synth now a.count c.loop-read.read c.loop-read.write a.depth (omega arith) deep c.if-nodes-read-eq-GROUP.false ws r w s),
    )

pub returns : goal.returns
returns t c =
    let a = c.args in
    let now = c.loop-read.nodes in
    c.loop-read.invariant.4 now c.loop-read.read c.loop-read.write (swept_end now a.count c.loop-read.read c.loop-read.write a.depth (omega arith))
