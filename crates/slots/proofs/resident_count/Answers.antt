use mathlib.Core.Path.{sym, ◌∙◌}
use Rattle.slots.specs.Slots.{residents_many}
use Rattle.slots.proofs.resident_count.Goals as goal

pub returns : goal.returns
returns c = λ arena. rw c.requires at c.ones.ensures ∙ sym (residents_many c.args.table.now arena)
