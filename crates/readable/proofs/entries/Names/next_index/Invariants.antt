use Rattle.std.proofs.Common.{◌≡◌, ◌-◌}
use Rattle.format.specs.Names.{next_index}
use Rattle.format.specs.Reader.{most_parameters}
use Rattle.readable.specs.Entries.{Entries, entries_from}
use Rattle.readable.proofs.entries.Names.next_index.Given as goal

abbrev pub invariant-loop : goal.invariant-loop
invariant-loop l =
    Entries l.self.s.now most_parameters (l.self.places.names - l.counter) l.at
    × (next_index l.i l.next (entries_from l.self.s.now (l.self.places.names - l.counter) l.at) ≡ next_index l.i l.fn.end (entries_from l.self.s.now l.self.places.names l.self.places.first))
