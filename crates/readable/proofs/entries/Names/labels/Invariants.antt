use Rattle.std.proofs.Common.{◌≡◌, ℕ, ◌-◌, Bool}
use Rattle.format.specs.Reader.{most_parameters}
use Rattle.readable.specs.Entries.{Entries}
use Rattle.readable.specs.Labels.{Labelling}
use Rattle.readable.proofs.entries.Names.labels.Given as goal

abbrev pub invariant-loop : goal.invariant-loop
invariant-loop g l =
    Entries l.self.s.now most_parameters (l.self.places.names - l.counter) l.at
    × ((may : ℕ → Bool) → ((at : ℕ) (b : Bool) → goal.F-post g l.takes at b → b ≡ may at) → Labelling may l.self.s.now l.self.places.first l.self.places.names l.counter l.at l.table)
