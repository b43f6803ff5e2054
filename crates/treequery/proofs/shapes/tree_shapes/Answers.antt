use native.Mathlib.Omega.{arith}
use Rattle.treequery.specs.LookUp.{looked_more, looked_all}
use Rattle.treequery.specs.Rows.{run_at, run_slot}
use Rattle.treequery.proofs.shapes.tree_shapes.Goals as goal

pub loop-i-init : goal.loop-i-init
loop-i-init c = (c.requires.1, λ j l h. absurd (omega arith))

pub look_up_row-requires : goal.look_up_row-requires
look_up_row-requires c =
    (run_at c.args.words.now c.args.arena.now c.args.from c.args.end c.loop-i.i c.requires.0 (omega arith), c.loop-i.invariant.0)

pub loop-i-preserved : goal.loop-i-preserved
loop-i-preserved c =
    let ws = c.args.words.now in
    let bs = c.args.arena.now in
    let i = c.loop-i.i in
    let h = c.look_up_row.ensures in
    (h.fact, looked_more ws bs c.args.from i c.loop-i.shapes c.look_up_row.new.shapes (λ j l single. run_slot ws bs c.args.from c.args.end j c.requires.0 (omega arith) single) h c.loop-i.invariant.1)

pub returns : goal.returns
returns c =
    let ws = c.args.words.now in
    let bs = c.args.arena.now in
    looked_all ws bs c.args.from c.args.end c.loop-i.shapes c.loop-i.invariant.0 (λ j l single. run_slot ws bs c.args.from c.args.end j c.requires.0 l single)
    (λ j l h single. c.loop-i.invariant.1 j l (omega arith) single)
