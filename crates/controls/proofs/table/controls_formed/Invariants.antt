use mathlib.Core.Path.{◌≡◌}
use lib.ListN.{drop}
use Rattle.model.specs.Layout.{nodes_in, controls_in}
use Rattle.model.specs.Engine.{decode}
use Rattle.model.specs.Formed.{controls_formed}
use Rattle.controls.specs.Cover.{Counted}
use Rattle.controls.proofs.table.controls_formed.Given as goal

abbrev pub invariant-loop-i : goal.invariant-loop-i
invariant-loop-i l =
    (controls_formed (decode l.words l.arena).slots (controls_in l.words) (drop l.i (nodes_in l.words)) ≡ controls_formed (decode l.words l.arena).slots (controls_in l.words) (nodes_in l.words))
    × Counted l.words l.arena l.known
