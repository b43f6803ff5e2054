use Rattle.slots.specs.Slots.{slots_on}
use Rattle.definitions.specs.Holders.{holders}
use Rattle.model.specs.Effects.{free_from}
use Prim.Native.Nat.{ℕ}
use mathlib.Core.Path.{◌≡◌}
use mathlib.Core.List.{List}
use lib.ListN.{drop}
use Rattle.definitions.proofs.lowest_free.Given as goal

abbrev pub invariant-loop-k : goal.invariant-loop-k
invariant-loop-k l = ((arena : List ℕ) → free_from l.k (drop l.k (slots_on l.table arena)) (holders l.held) ≡ free_from 0 (slots_on l.table arena) (holders l.held))
