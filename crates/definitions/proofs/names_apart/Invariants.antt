use Rattle.slots.specs.Slots.{slots_on}
use Rattle.model.specs.Formed.{names_apart}
use mathlib.Core.Path.{◌≡◌}
use lib.ListN.{drop}
use Rattle.definitions.proofs.names_apart.Given as goal

abbrev pub invariant-loop-k : goal.invariant-loop-k
invariant-loop-k l = (names_apart (drop l.k (slots_on l.table l.arena)) ≡ names_apart (slots_on l.table l.arena))
