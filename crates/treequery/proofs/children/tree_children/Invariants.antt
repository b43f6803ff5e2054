use Prim.Native.Nat.{ℕ, ◌≤◌, ◌<◌}
use mathlib.Core.Path.{◌≡◌}
use mathlib.Core.List.{List}
use lib.ListN.{length}
use Rattle.treequery.specs.Children.{Families, PerDepth}
use Rattle.treequery.proofs.children.tree_children.Given as goal

-- the records behind i were gone over
abbrev pub invariant-loop-i : goal.invariant-loop-i
invariant-loop-i l = (l.at < l.i) × (l.i ≤ l.end) × (length l.children ≡ 256) × ((bs : List ℕ) → Families l.words bs l.i l.end l.children) × PerDepth l.words l.end l.i l.below
