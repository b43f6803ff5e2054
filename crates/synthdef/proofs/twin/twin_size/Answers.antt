use Rattle.synthdef.specs.Reading.{reading_first, reading_next, reading-last, after-here}
use mathlib.Core.Path.{◌∙◌}
use native.Mathlib.Omega.{arith}
use Rattle.synthdef.proofs.twin.twin_size.Goals as goal

pub loop-init : goal.loop-init
loop-init c = reading_first c.args.file.now c.requires

pub overflow_add-size : goal.overflow_add-size
overflow_add-size c =
    let x = reading_next c.loop.invariant c.loop-test.true in
    let size = c.encoded_size-size.ensures x.here.definition x.next (rw c.width_of-width.ensures x.here.read) in
    omega (arith, x.behind.few, size)

pub loop-preserved : goal.loop-preserved
loop-preserved c =
    let x = reading_next c.loop.invariant c.loop-test.true in
    let end = c.place_after-at.ensures ∙ after-here c.args.file.now c.loop.at x.here.read in
    let size = c.encoded_size-size.ensures x.here.definition x.next (rw c.width_of-width.ensures x.here.read) in
    rw (size, end) x.behind

pub returns : goal.returns
returns c = reading-last c.loop.invariant c.loop-test.false
