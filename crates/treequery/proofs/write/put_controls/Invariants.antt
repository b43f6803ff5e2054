use Rattle.treequery.specs.Writing.{Left}
use Rattle.treequery.specs.Controls.{Controls}
use Rattle.treequery.specs.SynthRow.{controls_left}
use Rattle.treequery.proofs.write.put_controls.Given as goal

abbrev pub invariant-loop-j : goal.invariant-loop-j
invariant-loop-j l =
    Controls l.words l.arena l.shapes l.place l.definition l.synth.row l.synth.first l.synth.many
    × Left l.initial.next (controls_left l.words l.arena l.place 0) l.initial.out l.next (controls_left l.words l.arena l.place l.j) l.out
