use Rattle.slots.specs.Slots.{slots_on}
use Rattle.model.specs.Engine.{resident_from}
use mathlib.Core.Path.{◌≡◌}
use lib.ListN.{drop}
use Rattle.definitions.proofs.find_resident.Given as goal

abbrev pub invariant-loop-k : goal.invariant-loop-k
invariant-loop-k l = (resident_from l.k l.name (drop l.k (slots_on l.table l.arena)) ≡ resident_from 0 l.name (slots_on l.table l.arena))
