use Prim.Native.Nat.{ℕ, ◌+◌, ◌-◌}
use mathlib.Core.Path.{◌≡◌, refl, ap}
use native.Mathlib.Omega.{arith}
use lib.ListN.{get_or}
use Rattle.words.specs.Parts.{region}
use Rattle.osc.specs.Message.{text}
use Rattle.treequery.proofs.row.string_at.Goals as goal

pub returns : goal.returns
returns c =
    let s = c.args.definition.now in
    let at = c.args.at in
    let size : at + 1 + get_or s at 0 - (at + 1) ≡ get_or s at 0 = omega arith in
    (ap (λ (k : ℕ). text (region (at + 1) k s)) size, refl)
