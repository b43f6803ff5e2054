use Rattle.std.proofs.Common.{◌-◌, ◌≡◌}
use Rattle.reader.specs.Places.{place_past}
use Rattle.reader.proofs.places.place_past.Given as goal

-- what is left to skip, from the present place, comes to the same place as the whole does from the first
abbrev pub invariant-loop : goal.invariant-loop
invariant-loop l = place_past l.s (l.count - l.counter) l.here ≡ place_past l.s l.count l.initial.here
