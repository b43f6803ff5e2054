use Rattle.std.proofs.Common.{◌≡◌, ◌-◌}
use Rattle.format.specs.Names.{first_index}
use Rattle.format.specs.Reader.{most_parameters}
use Rattle.readable.specs.Entries.{Entries, entries_from}
use Rattle.readable.proofs.entries.Names.find.Given as goal

-- none of the entries that were passed has the name
abbrev pub invariant-loop : goal.invariant-loop
invariant-loop l =
    Entries l.self.s.now most_parameters (l.self.places.names - l.counter) l.entry
    × (first_index l.name (entries_from l.self.s.now (l.self.places.names - l.counter) l.entry) ≡ first_index l.name (entries_from l.self.s.now l.self.places.names l.self.places.first))
