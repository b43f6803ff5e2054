use mathlib.Core.Path.{sym, ◌∙◌}
use native.Mathlib.Omega.{arith}
use Rattle.names.specs.Records.{slot_word}
use Rattle.controls.proofs.node.node_slot.Goals as goal

pub returns : goal.returns
returns c =
    let a = c.args in
    c.wide.ensures ∙ sym (slot_word a.words.now a.place (omega arith))
