use Rattle.std.proofs.Common.{◌-◌, ◌*◌, ◌%◌}
use Rattle.readable.specs.Entries.{Left}
use Rattle.readable.proofs.entries.Names.end.Given as goal

abbrev pub invariant-loop : goal.invariant-loop
invariant-loop l = Left l.self.s.now l.self.places.names l.self.places.first (l.self.places.names - 4 * l.counter) l.at

abbrev pub invariant-loop-2 : goal.invariant-loop-2
invariant-loop-2 l = Left l.self.s.now l.self.places.names l.self.places.first (l.self.places.names % 4 - l.counter) l.at
