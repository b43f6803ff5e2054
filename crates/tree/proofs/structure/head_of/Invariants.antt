-- `tree::structure::head_of` meets its contract. The invariant: no record from the node's place up to i is a child.
use Prim.Native.Nat.{ℕ, ◌+◌}
use mathlib.Core.Path.{◌≡◌}
use lib.ListN.{drop}
use Rattle.nodes.specs.Table.{rows}
use Rattle.nodes.specs.Structure.{first_or}
use Rattle.tree.specs.Around.{child_numbers}
use Rattle.tree.proofs.structure.head_of.Given as goal

abbrev pub invariant-loop-i : goal.invariant-loop-i
invariant-loop-i l = (none : ℕ) → first_or none (child_numbers l.depth (drop l.i (rows l.count l.nodes))) ≡ first_or none (child_numbers l.depth (drop (l.at + 1) (rows l.count l.nodes)))
