use Rattle.synthdef.specs.Reading.{reading_next, after-here, head_length_in, writing_first, writing-room, writing_next, writing-last}
use Rattle.words.specs.PartsLaws.{over_put}
use Rattle.osc.specs.Over.{over_length}
use Rattle.format.specs.declared.Width.TheVariants.{Long}
use Rattle.format.specs.Writer.{write_definition, write_header}
use Rattle.synthdef.specs.Twin.{twin}
use Prim.Native.Nat.{◌≤◌}
use mathlib.Core.Path.{◌≡◌, sym, ap, ◌∙◌}
use native.Mathlib.Omega.{arith}
use lib.ListN.{length}
use Rattle.synthdef.proofs.twin.write_twin.Goals as goal

pub write_head-requires : goal.write_head-requires
write_head-requires c = omega (arith, head_length_in c.args.file.now, c.requires.1)

pub loop-init : goal.loop-init
loop-init c = writing_first c.args.file.now c.write_head.new.out c.requires.0

pub widen-to-requires : goal.widen-to-requires
widen-to-requires c =
    let x = reading_next c.loop.invariant.reading c.loop-test.true in
    let end = c.place_after-next.ensures ∙ after-here c.args.file.now c.loop.at x.here.read in
    let head : length c.write_head.new.out ≡ length c.args.out.now = ap length c.write_head.ensures ∙ over_length 0 (write_header Long c.args.count) c.args.out.now (omega (arith, head_length_in c.args.file.now, c.requires.1)) in
    let room : length (twin c.args.file.now) ≤ length c.write_head.new.out = omega (arith, c.requires.1) in
    rw (c.width_of-width.ensures, end) (record { readable = record { definition = x.here.definition; read = x.here.read }; room = writing-room c.loop.invariant room c.loop-test.true })

pub loop-preserved : goal.loop-preserved
loop-preserved c =
    let x = reading_next c.loop.invariant.reading c.loop-test.true in
    let end = c.place_after-next.ensures ∙ after-here c.args.file.now c.loop.at x.here.read in
    let head : length c.write_head.new.out ≡ length c.args.out.now = ap length c.write_head.ensures ∙ over_length 0 (write_header Long c.args.count) c.args.out.now (omega (arith, head_length_in c.args.file.now, c.requires.1)) in
    let room : length (twin c.args.file.now) ≤ length c.write_head.new.out = omega (arith, c.requires.1) in
    let w = c.widen-to.ensures x.here.definition (rw (c.width_of-width.ensures, end) x.here.read) in
    rw end (writing_next c.loop.invariant room c.loop-test.true (w.bytes ∙ sym (over_put c.loop.to (write_definition x.here.definition) c.loop.out)) w.end)

pub shape_of-out : goal.shape_of-out
shape_of-out c =
    let head : length c.write_head.new.out ≡ length c.args.out.now = ap length c.write_head.ensures ∙ over_length 0 (write_header Long c.args.count) c.args.out.now (omega (arith, head_length_in c.args.file.now, c.requires.1)) in
    c.loop.invariant.same ∙ head

pub returns : goal.returns
returns c =
    let head : length c.write_head.new.out ≡ length c.args.out.now = ap length c.write_head.ensures ∙ over_length 0 (write_header Long c.args.count) c.args.out.now (omega (arith, head_length_in c.args.file.now, c.requires.1)) in
    let room : length (twin c.args.file.now) ≤ length c.write_head.new.out = omega (arith, c.requires.1) in
    writing-last c.loop.invariant room c.args.out.now c.loop-test.false c.requires.0 c.requires.1 c.write_head.ensures
