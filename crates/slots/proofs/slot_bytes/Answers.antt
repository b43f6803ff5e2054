use mathlib.Core.Path.{◌∙◌}
use native.Mathlib.Omega.{arith}
use Rattle.slots.specs.Slots.{bytes_lent}
use Rattle.slots.proofs.slot_bytes.Goals as goal

pub returns : goal.returns
returns c =
    let a = c.args in
    c.bytes_on.ensures ∙ bytes_lent a.words.now a.arena.now a.slot (omega arith)
