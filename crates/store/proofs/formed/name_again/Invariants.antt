-- `store::formed::name_again` meets its contract. The invariant: in what is left the name stands as it does in all.
use mathlib.Core.Path.{◌≡◌}
use lib.ListN.{length}
use Rattle.store.specs.Store.{fields_of, entries_at, has_entry}
use Rattle.store.proofs.formed.name_again.Given as goal

abbrev pub invariant-loop-field : goal.invariant-loop-field
invariant-loop-field l = has_entry l.name (entries_at (fields_of l.left)) ≡ has_entry l.name (entries_at (fields_of l.rest))

abbrev pub decreases-loop-field : goal.decreases-loop-field
decreases-loop-field l = length l.left
