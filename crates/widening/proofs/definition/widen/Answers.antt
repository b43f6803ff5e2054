use Rattle.format.specs.declared.Width.TheVariants.{Long}
use Rattle.words.specs.Parts.{region}
use Rattle.words.specs.PartsLaws.{region-length}
use Rattle.words.specs.Bytes.{AreBytes}
use Rattle.roundtrip.specs.Forth.{definition_forth}
use Rattle.widening.specs.Encoded.{Encodable, encoded}
use Prim.Native.Nat.{ℕ, ◌+◌, ◌-◌}
use mathlib.Core.Path.{sym, ap}
use native.Mathlib.Omega.{arith}
use lib.ListN.{length}
use Rattle.widening.proofs.definition.widen.Goals as goal

pub widen_short-requires : goal.widen_short-requires
widen_short-requires c = rw c.in-Short.is at c.requires

pub slice_bounds-put_bytes-count : goal.slice_bounds-put_bytes-count
slice_bounds-put_bytes-count c =
    let s = c.args.s.now in
    let at = c.args.at in
    let end = c.args.end in
    let b : AreBytes s = λ i. (c.type_inv.s i).fits in
    let pre : Encodable Long s at end c.args.out.now c.args.place = rw c.in-Long.is at c.requires in
    let t = definition_forth Long s b at pre.readable.definition end pre.readable.read in
    let size = region-length at (end - at) s (omega (arith, t.forward, t.inside)) in
    t.forward

pub slice_bounds-put_bytes-start : goal.slice_bounds-put_bytes-start
slice_bounds-put_bytes-start c =
    let s = c.args.s.now in
    let at = c.args.at in
    let end = c.args.end in
    let b : AreBytes s = λ i. (c.type_inv.s i).fits in
    let pre : Encodable Long s at end c.args.out.now c.args.place = rw c.in-Long.is at c.requires in
    let t = definition_forth Long s b at pre.readable.definition end pre.readable.read in
    let size = region-length at (end - at) s (omega (arith, t.forward, t.inside)) in
    omega (arith, t.forward, t.inside)

pub slice_bounds-put_bytes-end : goal.slice_bounds-put_bytes-end
slice_bounds-put_bytes-end c =
    let s = c.args.s.now in
    let at = c.args.at in
    let end = c.args.end in
    let b : AreBytes s = λ i. (c.type_inv.s i).fits in
    let pre : Encodable Long s at end c.args.out.now c.args.place = rw c.in-Long.is at c.requires in
    let t = definition_forth Long s b at pre.readable.definition end pre.readable.read in
    let size = region-length at (end - at) s (omega (arith, t.forward, t.inside)) in
    omega (arith, t.forward, t.inside)

pub put_bytes-requires : goal.put_bytes-requires
put_bytes-requires c =
    let s = c.args.s.now in
    let at = c.args.at in
    let end = c.args.end in
    let b : AreBytes s = λ i. (c.type_inv.s i).fits in
    let pre : Encodable Long s at end c.args.out.now c.args.place = rw c.in-Long.is at c.requires in
    let t = definition_forth Long s b at pre.readable.definition end pre.readable.read in
    let size = region-length at (end - at) s (omega (arith, t.forward, t.inside)) in
    omega (arith, ap length t.bytes, pre.room)

pub overflow_sub-result : goal.overflow_sub-result
overflow_sub-result c =
    let s = c.args.s.now in
    let at = c.args.at in
    let end = c.args.end in
    let b : AreBytes s = λ i. (c.type_inv.s i).fits in
    let pre : Encodable Long s at end c.args.out.now c.args.place = rw c.in-Long.is at c.requires in
    let t = definition_forth Long s b at pre.readable.definition end pre.readable.read in
    let size = region-length at (end - at) s (omega (arith, t.forward, t.inside)) in
    t.forward

pub overflow_add-result : goal.overflow_add-result
overflow_add-result c =
    let s = c.args.s.now in
    let at = c.args.at in
    let end = c.args.end in
    let b : AreBytes s = λ i. (c.type_inv.s i).fits in
    let pre : Encodable Long s at end c.args.out.now c.args.place = rw c.in-Long.is at c.requires in
    let t = definition_forth Long s b at pre.readable.definition end pre.readable.read in
    let size = region-length at (end - at) s (omega (arith, t.forward, t.inside)) in
    omega (arith, t.forward, t.inside, ap length t.bytes, pre.room, size)

pub returns-in-Short : goal.returns-in-Short
returns-in-Short c = rw c.in-Short.is c.widen_short.ensures

pub returns-in-Long : goal.returns-in-Long
returns-in-Long c =
    let s = c.args.s.now in
    let at = c.args.at in
    let end = c.args.end in
    let b : AreBytes s = λ i. (c.type_inv.s i).fits in
    let pre : Encodable Long s at end c.args.out.now c.args.place = rw c.in-Long.is at c.requires in
    let t = definition_forth Long s b at pre.readable.definition end pre.readable.read in
    let size = region-length at (end - at) s (omega (arith, t.forward, t.inside)) in
    rw c.in-Long.is (encoded pre (region at (end - at) s) t.bytes c.put_bytes.ensures (sym (ap (λ (n : ℕ). c.args.place + n) size)))
