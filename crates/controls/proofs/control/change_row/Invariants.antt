use Prim.Native.Nat.{◌+◌, ◌*◌, ◌-◌}
use mathlib.Core.Path.{◌≡◌}
use lib.ListN.{length}
use Rattle.model.specs.Effects.{change_row}
use Rattle.controls.specs.Change.{change_of, change_from_place}
use Rattle.controls.proofs.control.change_row.Given as goal

abbrev pub invariant-loop : goal.invariant-loop
invariant-loop l =
    (l.at ≡ 64 * l.row + 2 * l.start + 2 * l.counter) × (length l.controls ≡ length l.initial.controls)
    × (change_from_place (change_of l.change) l.at (l.many - l.counter) l.controls ≡ change_row (change_of l.change) l.row l.start l.many l.initial.controls)
