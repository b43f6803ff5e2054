use Prim.Native.Nat.{ℕ}
use mathlib.Core.Path.{ap}
use lib.Dec.{ltb}
use Rattle.controls.proofs.buses.is_bus.Goals as goal

pub returns : goal.returns
returns c = ap (λ (n : ℕ). ltb n 4096) c.wide.ensures
