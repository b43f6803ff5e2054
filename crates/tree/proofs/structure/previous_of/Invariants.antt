-- `tree::structure::previous_of` meets its contract. The invariant: every record from i up to the node's place is deeper.
use Prim.Native.Nat.{ℕ}
use mathlib.Core.Path.{◌≡◌}
use Rattle.nodes.specs.Table.{rows}
use Rattle.tree.specs.Around.{along, beside_or}
use Rattle.tree.proofs.structure.previous_of.Given as goal

abbrev pub invariant-loop-i : goal.invariant-loop-i
invariant-loop-i l = (none : ℕ) → along (beside_or none l.depth) none (rows l.i l.nodes) ≡ along (beside_or none l.depth) none (rows l.at l.nodes)
