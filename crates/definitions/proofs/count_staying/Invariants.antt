use Rattle.slots.specs.Slots.{slots_on}
use Rattle.definitions.specs.Naming.{NamedBy}
use Rattle.definitions.specs.Holders.{holders}
use Rattle.model.specs.Checks.{staying}
use Prim.Native.Nat.{ℕ, ◌+◌, ◌≤◌}
use mathlib.Core.Path.{◌≡◌}
use mathlib.Core.List.{List}
use lib.ListN.{drop}
use Rattle.definitions.proofs.count_staying.Given as goal

abbrev pub invariant-loop-k : goal.invariant-loop-k
invariant-loop-k l = ((l.n ≤ l.k) × ((arena : List ℕ) (names : List (List ℕ)) → NamedBy l.table arena names l.marks → l.n + staying l.k names (drop l.k (slots_on l.table arena)) (holders l.held) ≡ staying 0 names (slots_on l.table arena) (holders l.held)))
