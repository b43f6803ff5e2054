use Rattle.definitions.specs.Exporting.{size_turn, body_end, export_size}
use Prim.Native.Nat.{◌+◌}
use mathlib.Core.Path.{ap}
use native.Mathlib.Omega.{arith}
use borrow.Author.Tests.{eq-eqb, ne_eqb}
use lib.ListN.{length, get_or}
use Rattle.definitions.proofs.export_length.Goals as goal
use Rattle.definitions.proofs.export_length.Goals.{then-table-k-eq1, else-table-k-eq1}

pub loop-k-preserved : goal.loop-k-preserved
loop-k-preserved c =
    let table = c.args.table.now in
    let arena = c.args.arena.now in
    let k = c.loop-k.k in
    let before = c.loop-k.n in
    let inv = c.loop-k.invariant in
    let step = size_turn table arena (λ i. (c.type_inv.arena i).fits) c.requires k (omega arith) in
    elim c.if-table-k-eq1.branch [
      | then-table-k-eq1 b ↦ let in-slot = eq-eqb (get_or table (32 + k) 0) 1 b.if-table-k-eq1.true in
          let small = (c.requires.resident k (omega arith) in-slot).small in
          let turn = rw in-slot at step in
          let size = b.wide-n.ensures in
          let n = b.n-is in
          (omega arith, omega arith)
      | else-table-k-eq1 b ↦ let turn = rw (ne_eqb (get_or table (32 + k) 0) 1 b.if-table-k-eq1.false) at step in
          let n = b.n-is in
          (omega arith, omega arith)
    ]

pub returns : goal.returns
returns c =
    let a = c.args in
    let all = c.loop-k.invariant.1 in
    let none = ap length (body_end a.table.now a.arena.now c.loop-k.k (omega arith)) in
    let whole = export_size a.table.now a.arena.now in
    omega arith
