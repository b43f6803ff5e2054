use Prim.Native.Nat.{◌+◌}
use mathlib.Core.Path.{◌≡◌, refl, sym, ◌∙◌}
use native.Mathlib.Omega.{arith}
use lib.ListN.{set}
use Rattle.nodes.specs.Table.{rows}
use Rattle.reindex.specs.Kept.{sifted_none, sifted_gone, sifted_kept, sifted_all}
use Rattle.reindex.proofs.kept.kept_places.Goals as goal
use Rattle.reindex.proofs.kept.kept_places.Goals.{then-stays_at, else-stays_at}

pub loop-i-init : goal.loop-i-init
loop-i-init c =
    let a = c.args in
    (omega arith, sifted_none a.from a.to (rows a.count a.nodes.now) 256 refl)

pub loop-i-preserved : goal.loop-i-preserved
loop-i-preserved c =
    let a = c.args in
    let us = a.nodes.now in
    elim c.if-stays_at.branch [
      | then-stays_at w ↦ let places : c.if-stays_at.places ≡ set c.loop-i.places c.loop-i.i c.loop-i.next = w.places-is in
          let next : c.if-stays_at.next ≡ c.loop-i.next + 1 = w.next-is in
          (omega arith, rw (places, next) (sifted_kept a.from a.to a.count us c.requires.few c.loop-i.i c.loop-i.next c.loop-i.places (omega arith) c.loop-i.invariant.0 c.loop-i.invariant.1 (sym c.stays_at.ensures ∙ w.if-stays_at.true)))
      | else-stays_at w ↦ let places : c.if-stays_at.places ≡ c.loop-i.places = w.places-is in
          let next : c.if-stays_at.next ≡ c.loop-i.next = w.next-is in
          (omega arith, rw (places, next) (sifted_gone a.from a.to a.count us c.requires.few c.loop-i.i c.loop-i.next c.loop-i.places (omega arith) c.loop-i.invariant.0 c.loop-i.invariant.1 (sym c.stays_at.ensures ∙ w.if-stays_at.false)))
    ]

pub returns : goal.returns
returns c =
    let a = c.args in
    sifted_all a.from a.to a.count a.nodes.now c.requires.few c.loop-i.i c.loop-i.next c.loop-i.places (omega arith) c.loop-i.auto.i-end c.loop-i.invariant.0 c.loop-i.invariant.1
