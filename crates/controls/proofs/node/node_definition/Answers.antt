use mathlib.Core.Path.{ap, ◌∙◌}
use Rattle.slots.specs.Slots.{slot_bytes}
use Rattle.controls.proofs.node.node_definition.Goals as goal

pub node_slot-requires : goal.node_slot-requires
node_slot-requires c = (c.requires.0, c.requires.1)

pub slot_bytes-requires : goal.slot_bytes-requires
slot_bytes-requires c = (c.requires.0, rw c.node_slot.ensures c.requires.2)

pub returns : goal.returns
returns c =
    let a = c.args in
    c.slot_bytes.ensures ∙ ap (slot_bytes a.words.now a.arena.now) c.node_slot.ensures
