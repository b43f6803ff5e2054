use Prim.Native.Nat.{◌+◌, ◌*◌}
use mathlib.Core.Path.{◌≡◌, ◌∙◌}
use native.Mathlib.Omega.{arith}
use lib.ListN.{set, length-set}
use Rattle.controls.specs.Encoded.{values_few}
use Rattle.treequery.specs.Filling.{filling_none, filling_turn, filling_done}
use Rattle.treequery.proofs.shapes.look_up.Goals as goal

pub labels-places-requires : goal.labels-places-requires
labels-places-requires c = c.requires.2

pub parameter_count-requires : goal.parameter_count-requires
parameter_count-requires c = c.requires.2

pub overflow_add-shapes : goal.overflow_add-shapes
overflow_add-shapes c = omega (arith, c.parameter_count.ensures, values_few c.args.definition.now)

pub bounds-shapes-first : goal.bounds-shapes-first
bounds-shapes-first c = omega (arith, c.requires.0)

pub loop-j-init : goal.loop-j-init
loop-j-init c =
    let table = set c.args.shapes.now (33 * c.args.slot) (c.parameter_count.result + 1) in
    (filling_none c.args.slot table c.labels-places.result (length-set c.args.shapes.now (33 * c.args.slot) (c.parameter_count.result + 1) ∙ c.requires.1))

pub bounds-shapes-first-in-loop-j : goal.bounds-shapes-first-in-loop-j
bounds-shapes-first-in-loop-j c = omega (arith, c.requires.0)

pub loop-j-preserved : goal.loop-j-preserved
loop-j-preserved c =
    let table = set c.args.shapes.now (33 * c.args.slot) (c.parameter_count.result + 1) in
    (filling_turn c.args.slot table c.loop-j.shapes c.labels-places.result c.loop-j.j c.requires.0 (omega arith) c.loop-j.invariant)

pub returns : goal.returns
returns c =
    let last : c.loop-j.j ≡ 32 = omega arith in
    let table = set c.args.shapes.now (33 * c.args.slot) (c.parameter_count.result + 1) in
    filling_done c.args.definition.now c.args.slot c.args.shapes.now c.loop-j.shapes c.labels-places.result c.parameter_count.result c.requires.0 c.requires.1 c.parameter_count.ensures c.labels-places.ensures
    (rw last at c.loop-j.invariant)
