-- `tree::change::set_run` meets its contract: one record is written over another.
use Prim.Native.Nat.{◌*◌}
use mathlib.Core.Path.{sym, ap, ◌∙◌}
use mathlib.Core.List.{List}
use native.Mathlib.Omega.{arith}
use Rattle.nodes.specs.declared.Node.{Node}
use Rattle.words.specs.Parts.{over}
use Rattle.nodes.specs.Table.{width, fill, words_of, node_from}
use Rattle.nodes.specs.Edit.{with_run}
use Rattle.nodes.specs.Split.{set_run-at}
use Rattle.tree.specs.Words.{put_words}
use Rattle.tree.proofs.change.set_run.Goals as goal

pub returns : goal.returns
returns c =
    let a = c.args in
    let us = a.nodes.now in
    c.put_node.ensures
    ∙ ap (λ (r : Node). over (width * a.at) (words_of (with_run a.flag r)) us) c.node_at-node.ensures
    ∙ put_words us a.count a.at (with_run a.flag (node_from us (width * a.at))) (omega arith) (omega arith)
    ∙ ap (λ (l : List Node). fill us l) (sym (set_run-at a.count us a.at (omega arith) a.flag))
