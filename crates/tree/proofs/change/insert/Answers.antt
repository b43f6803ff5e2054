-- `tree::change::insert` meets its contract: one law of the words.
use lib.ListN.{length-append, length-take, length-drop}
use Prim.Native.Nat.{ℕ, ◌+◌, ◌*◌, ◌-◌}
use mathlib.Core.Path.{◌≡◌, ap, ◌∙◌}
use mathlib.Core.List.{List}
use native.Mathlib.Omega.{arith}
use Rattle.words.specs.Parts.{over}
use Rattle.nodes.specs.Table.{width, words_of}
use Rattle.nodes.specs.TableLaws.{rows-length, insert_words}
use Rattle.tree.proofs.change.insert.Goals as goal

pub returns : goal.returns
returns c =
    let a = c.args in
    let us = a.nodes.now in
    let up : width * (a.at + 1) ≡ width * a.at + width = omega arith in
    let moved = rw up at c.copy_within.ensures.after in
    let m = width * a.count - width * a.at in record {
      words =
          c.put_node.ensures
          ∙ ap (λ (l : List ℕ). over (width * a.at) (words_of a.node) l) moved
          ∙ insert_words us a.count a.at m a.node (omega arith) (omega arith) (omega arith);
      size = simp (length-append, length-take, length-drop, rows-length) (omega arith);
    }
