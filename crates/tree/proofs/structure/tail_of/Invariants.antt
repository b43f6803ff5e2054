-- `tree::structure::tail_of` meets its contract. The invariant: the last child so far, and those from i on, give the last of all.
use Prim.Native.Nat.{ℕ, ◌+◌}
use mathlib.Core.Path.{◌≡◌}
use Rattle.std.proofs.Common.{drop, unwrap_or}
use Rattle.nodes.specs.Table.{rows}
use Rattle.nodes.specs.Structure.{last_or}
use Rattle.tree.specs.Around.{child_numbers}
use Rattle.tree.proofs.structure.tail_of.Given as goal

abbrev pub invariant-loop-i : goal.invariant-loop-i
invariant-loop-i l = (none : ℕ) → last_or (unwrap_or l.last none) (child_numbers l.depth (drop l.i (rows l.count l.nodes))) ≡ last_or none (child_numbers l.depth (drop (l.at + 1) (rows l.count l.nodes)))
