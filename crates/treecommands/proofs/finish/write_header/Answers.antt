-- `treecommands::finish::write_header` meets its contract: four stores are the first words put in.
use native.Mathlib.Omega.{arith}
use lib.ListN.{length-set}
use Rattle.treecommands.specs.Settle.{header-sets}
use Rattle.treecommands.proofs.finish.write_header.Goals as goal

pub bounds-words-1 : goal.bounds-words-1
bounds-words-1 c = simp length-set (omega arith)

pub bounds-words-2 : goal.bounds-words-2
bounds-words-2 c = simp length-set (omega arith)

pub returns : goal.returns
returns c =
    let a = c.args in
    header-sets a.count a.many a.next a.latest a.words.now (omega arith)
