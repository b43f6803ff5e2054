use Rattle.definitions.specs.Names.{marking_set, marking_skip}
use Prim.Native.Nat.{◌<◌}
use mathlib.Core.Path.{sym, ◌∙◌}
use native.Mathlib.Omega.{arith}
use Rattle.definitions.proofs.mark_named.Goals as goal
use Rattle.definitions.proofs.mark_named.Goals.{then-slot_named, else-slot_named}

pub loop-k-preserved : goal.loop-k-preserved
loop-k-preserved c =
    let k = c.loop-k.k in
    let now = c.loop-k.named in
    let a = c.args in
    let table = a.table.now in
    let arena = a.arena.now in
    let name = a.name.now in
    let inv = c.loop-k.invariant in
    let less : k < 32 = omega arith in
    elim c.if-slot_named.branch [
      | then-slot_named b ↦ rw b.named-is (marking_set table arena name a.marks k now inv less (sym c.slot_named.ensures ∙ b.if-slot_named.true))
      | else-slot_named b ↦ rw b.named-is (marking_skip table arena name a.marks k now inv less (sym c.slot_named.ensures ∙ b.if-slot_named.false))
    ]
