use Rattle.slots.specs.Slots.{lengths_on, slots_on}
use Rattle.definitions.specs.Holders.{holders}
use Rattle.model.specs.Formed.{slots_formed}
use mathlib.Core.Path.{◌≡◌}
use lib.ListN.{drop}
use Rattle.definitions.proofs.each_formed.Given as goal

abbrev pub invariant-loop-k : goal.invariant-loop-k
invariant-loop-k l = (slots_formed l.k (drop l.k (lengths_on l.table)) (drop l.k (slots_on l.table l.arena)) (holders l.held) ≡ slots_formed 0 (lengths_on l.table) (slots_on l.table l.arena) (holders l.held))
