use Rattle.slots.specs.Slots.{slots_on}
use Rattle.definitions.specs.Names.{resident_end}
use Rattle.model.specs.Engine.{resident_from}
use Rattle.definitions.specs.Slots.{slot_none}
use mathlib.Core.Path.{◌≡◌, sym, ◌∙◌}
use native.Mathlib.Omega.{arith}
use Rattle.definitions.proofs.find_resident.Goals as goal

pub returns : goal.returns
returns c =
    let a = c.args in
    let none : resident_from 0 a.name.now (slots_on a.table.now a.arena.now) ≡ c.loop-k.k = sym c.loop-k.invariant ∙ resident_end a.table.now a.arena.now a.name.now c.loop-k.k (omega arith) in
    rw none (sym (slot_none c.loop-k.k (omega arith)))
