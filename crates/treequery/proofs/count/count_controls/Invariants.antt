use Rattle.treequery.specs.Counting.{Counting}
use Rattle.treequery.specs.Controls.{Controls}
use Rattle.treequery.specs.SynthRow.{controls_left}
use Rattle.treequery.proofs.count.count_controls.Given as goal

abbrev pub invariant-loop-j : goal.invariant-loop-j
invariant-loop-j l =
    Controls l.words l.arena l.shapes l.place l.definition l.synth.row l.synth.first l.synth.many
    × Counting l.initial.next (controls_left l.words l.arena l.place 0) l.next (controls_left l.words l.arena l.place l.j)
