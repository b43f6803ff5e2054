-- `store::formed::store_formed` meets its contract. The invariant: what is left is formed if and only if the store is.
use mathlib.Core.Path.{◌≡◌}
use lib.ListN.{length}
use Rattle.store.specs.Store.{fields_of, store_formed}
use Rattle.store.specs.FormedWalk.{left_formed}
use Rattle.store.proofs.formed.store_formed.Given as goal

abbrev pub invariant-loop-field : goal.invariant-loop-field
invariant-loop-field l = left_formed l.walk (fields_of l.rest) ≡ store_formed l.store

abbrev pub decreases-loop-field : goal.decreases-loop-field
decreases-loop-field l = length l.rest
