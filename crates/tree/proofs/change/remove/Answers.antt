-- `tree::change::remove` meets its contract: one law of the words.
use lib.ListN.{length-append, length-take, length-drop}
use Prim.Native.Nat.{◌*◌, ◌-◌}
use mathlib.Core.Path.{◌∙◌}
use native.Mathlib.Omega.{arith}
use Rattle.nodes.specs.Table.{width}
use Rattle.nodes.specs.TableLaws.{rows-length, remove_words}
use Rattle.tree.proofs.change.remove.Goals as goal

pub returns : goal.returns
returns c =
    let a = c.args in
    let m = width * a.count - width * a.to in record {
      words = c.copy_within.ensures.after ∙ remove_words a.nodes.now a.count a.from a.to m (omega arith) (omega arith) (omega arith) (omega arith);
      size = simp (length-append, length-take, length-drop, rows-length) (omega arith);
    }
