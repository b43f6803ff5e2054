use Prim.Native.Nat.{◌+◌}
use mathlib.Core.Path.{refl, ◌∙◌}
use native.Mathlib.Omega.{arith}
use lib.Seq.{paste-zero}
use Rattle.osc.specs.Message.{padded}
use Rattle.osc.specs.Over.{over_length}
use Rattle.osc.specs.Lengths.{padded_size}
use Rattle.osc.specs.Padding.{four_at, over_four, over_last}
use Rattle.osc.proofs.put_padded.Goals as goal

pub loop-i-init : goal.loop-i-init
loop-i-init c =
    let a = c.args in
    (omega arith, refl, refl, paste-zero a.out.now a.at (padded a.bytes.now))

pub put_four-requires : goal.put_four-requires
put_four-requires c = omega (arith, padded_size c.args.bytes.now)

pub loop-i-preserved : goal.loop-i-preserved
loop-i-preserved c =
    let a = c.args in
    let put = c.put_four.ensures in
    let ends = padded_size a.bytes.now in (
      omega arith,
      omega arith,
      rw put (over_length (a.at + c.loop-i.i) (four_at a.bytes.now c.loop-i.i) c.loop-i.out (omega (arith, ends)) ∙ c.loop-i.invariant.2),
      rw put (over_four a.bytes.now a.out.now c.loop-i.out a.at c.loop-i.i (omega arith) c.loop-i.invariant.3 (omega (arith, ends))),
    )

pub put_four-requires-2 : goal.put_four-requires-2
put_four-requires-2 c = omega (arith, padded_size c.args.bytes.now)

pub returns : goal.returns
returns c =
    let a = c.args in
    rw (c.put_four-2.ensures, c.byte_or_zero.ensures, c.byte_or_zero-2.ensures, c.byte_or_zero-3.ensures)
    (over_last a.bytes.now a.out.now c.loop-i.out a.at c.loop-i.i (omega arith) c.loop-i.invariant.3 (omega arith) (omega arith) c.loop-i.invariant.1)
