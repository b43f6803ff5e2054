-- `store::find::find_entry` meets its contract. The invariant: the entries before this place have other names.
use Prim.Native.Nat.{◌-◌}
use lib.ListN.{length}
use Rattle.store.specs.FindLaws.{EntriesLeft}
use Rattle.store.proofs.find.find_entry.Given as goal

abbrev pub invariant-loop-at : goal.invariant-loop-at
invariant-loop-at l = EntriesLeft l.name l.store l.at

abbrev pub decreases-loop-at : goal.decreases-loop-at
decreases-loop-at l = length l.store - l.at
