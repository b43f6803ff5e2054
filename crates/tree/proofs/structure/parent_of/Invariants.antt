-- `tree::structure::parent_of` meets its contract. The invariant: no record from i up to the node's place is less deep.
use Prim.Native.Nat.{ℕ}
use mathlib.Core.Path.{◌≡◌}
use Rattle.nodes.specs.Table.{rows}
use Rattle.tree.specs.Around.{along, above}
use Rattle.tree.proofs.structure.parent_of.Given as goal

abbrev pub invariant-loop-i : goal.invariant-loop-i
invariant-loop-i l = (none : ℕ) → along (above l.depth) none (rows l.i l.nodes) ≡ along (above l.depth) none (rows l.at l.nodes)
