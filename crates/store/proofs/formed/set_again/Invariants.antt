-- `store::formed::set_again` meets its contract. The invariant: in what is left the control stands as it does in all.
use mathlib.Core.Path.{◌≡◌}
use lib.ListN.{length}
use Rattle.store.specs.Store.{fields_of, settings_at, is_set}
use Rattle.store.proofs.formed.set_again.Given as goal

abbrev pub invariant-loop-field : goal.invariant-loop-field
invariant-loop-field l = is_set l.name (settings_at (fields_of l.left)) ≡ is_set l.name (settings_at (fields_of l.rest))

abbrev pub decreases-loop-field : goal.decreases-loop-field
decreases-loop-field l = length l.left
