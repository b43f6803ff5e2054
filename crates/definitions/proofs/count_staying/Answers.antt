use native.Mathlib.Nat.{add-zero}
use Rattle.words.specs.Choice.{pick}
use Rattle.slots.specs.Slots.{slots_on}
use Rattle.definitions.specs.Naming.{staying_step, staying_end}
use Rattle.definitions.specs.Holders.{holders}
use Rattle.model.specs.Checks.{staying}
use Prim.Native.Nat.{◌+◌, ◌≤◌}
use mathlib.Core.Bool.{Bool}
use mathlib.Core.Path.{◌≡◌, sym, ap, ◌∙◌}
use native.Mathlib.Omega.{arith}
use lib.ListN.{drop}
use Rattle.definitions.proofs.count_staying.Goals as goal
use Rattle.definitions.proofs.count_staying.Goals.{then-stays, else-stays}

pub loop-k-preserved : goal.loop-k-preserved
loop-k-preserved c =
    let k = c.loop-k.k in
    let a = c.args in
    let inv = c.loop-k.invariant in
    let before = c.loop-k.n in
    let test = c.stays.result in
    let more : (c.if-stays.n ≡ before + pick test 1 0) × (c.if-stays.n ≤ before + 1) =
    elim c.if-stays.branch [
      | then-stays case ↦ (case.n-is ∙ ap (λ (b : Bool). before + pick b 1 0) (sym case.if-stays.true), omega arith)
      | else-stays case ↦ (case.n-is ∙ sym (add-zero before) ∙ ap (λ (b : Bool). before + pick b 1 0) (sym case.if-stays.false), omega arith)
    ] in (
      omega arith,
      λ arena names n.
          let rest = staying (k + 1) names (drop (k + 1) (slots_on a.table.now arena)) (holders a.held) in
          let step : staying k names (drop k (slots_on a.table.now arena)) (holders a.held) ≡ pick test 1 0 + rest =
          staying_step a.table.now arena names a.marks a.held k n (omega arith) ∙ ap (λ (b : Bool). pick b 1 0 + rest) (sym c.stays.ensures) in
          let all = inv.1 arena names n in
          let sum = more.0 in
          omega arith,
    )

pub returns : goal.returns
returns c =
    λ arena names n.
    let a = c.args in
    let last = staying_end a.table.now arena names (holders a.held) c.loop-k.k (omega arith) in
    let all = c.loop-k.invariant.1 arena names n in
    omega arith
