use Prim.Native.Nat.{◌-◌}
use mathlib.Core.Path.{◌≡◌}
use lib.ListN.{length, take, drop}
use Rattle.model.specs.Layout.{words_length, nodes_in, controls_in, put_controls}
use Rattle.model.specs.Engine.{decode}
use Rattle.model.specs.Effects.{change_all}
use Rattle.controls.specs.Change.{change_of}
use Rattle.controls.specs.Cover.{CoversNoted}
use Rattle.controls.proofs.table.change_all.Given as goal

abbrev pub invariant-loop-i : goal.invariant-loop-i
invariant-loop-i l =
    (length l.words ≡ words_length) × (l.words ≡ put_controls (controls_in l.words) l.initial.words)
    × (change_all (change_of l.change) l.key l.name l.count (decode l.initial.words l.arena).slots (take (l.to - l.i) (drop l.i (nodes_in l.initial.words))) (controls_in l.words)
    ≡ change_all (change_of l.change) l.key l.name l.count (decode l.initial.words l.arena).slots (take (l.to - l.from) (drop l.from (nodes_in l.initial.words))) (controls_in l.initial.words))
    × CoversNoted l.key l.name l.initial.words l.arena l.covers
