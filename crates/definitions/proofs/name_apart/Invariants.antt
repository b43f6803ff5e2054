use Rattle.slots.specs.Slots.{slots_on}
use Rattle.model.specs.Formed.{name_resident}
use mathlib.Core.Path.{◌≡◌}
use lib.ListN.{drop}
use Rattle.definitions.proofs.name_apart.Given as goal

abbrev pub invariant-loop-k : goal.invariant-loop-k
invariant-loop-k l = (name_resident l.name (drop l.k (slots_on l.table l.arena)) ≡ name_resident l.name (drop l.from (slots_on l.table l.arena)))
