use Prim.Native.Nat.{ℕ}
use mathlib.Core.Path.{sym, ap}
use native.Mathlib.Omega.{arith}
use lib.ListN.{set}
use lib.Seq.{set_out}
use Rattle.controls.proofs.buses.set_bus.Goals as goal

pub returns-then-at-buses : goal.returns-then-at-buses
returns-then-at-buses c = ap (λ (k : ℕ). set c.args.buses.now k c.args.pattern) c.wide-at.ensures

pub returns-else-at-buses : goal.returns-else-at-buses
returns-else-at-buses c =
    sym (set_out c.args.buses.now c.args.bus c.args.pattern (omega arith))
