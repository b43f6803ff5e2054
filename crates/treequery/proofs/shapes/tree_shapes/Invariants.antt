use Prim.Native.Nat.{ℕ, ◌*◌, ◌≤◌, ◌<◌}
use mathlib.Core.Bool.{false}
use mathlib.Core.Path.{◌≡◌}
use lib.ListN.{get_or}
use Rattle.nodes.specs.Place.{is_group}
use Rattle.model.specs.Layout.{record_in}
use Rattle.treequery.specs.Shapes.{ShapesKnown}
use Rattle.treequery.proofs.shapes.tree_shapes.Given as goal

abbrev pub invariant-loop-i : goal.invariant-loop-i
invariant-loop-i l =
    ShapesKnown l.words l.arena l.shapes
    × ((j : ℕ) → l.from ≤ j → j < l.i → is_group (record_in l.words j) ≡ false → 0 < get_or l.shapes (33 * (record_in l.words j).slot) 0)
