-- `tree::rows::first_free` meets its contract. The invariant: every row from the first up to this one is marked.
use Prim.Native.Nat.{ℕ, ◌≤◌, ◌<◌}
use mathlib.Core.Bool.{true, false}
use mathlib.Core.Path.{◌≡◌}
use lib.ListN.{get_or}
use Rattle.tree.proofs.rows.first_free.Given as goal

abbrev pub invariant-loop-row : goal.invariant-loop-row
invariant-loop-row l = (k : ℕ) → k < l.row → l.from ≤ k → get_or l.marks k false ≡ true
