-- `settings::recalling::recall_version` meets its contract.
use Prim.Native.Nat.{◌-◌}
use Rattle.settings.specs.Recalled.{RestToSet}
use Rattle.settings.proofs.recalling.recall_version.Given as goal

abbrev pub invariant-loop-at : goal.invariant-loop-at
invariant-loop-at l = RestToSet l.name l.number l.node l.store l.initial.words l.arena l.end l.at l.words

abbrev pub decreases-loop-at : goal.decreases-loop-at
decreases-loop-at l = l.end - l.at
