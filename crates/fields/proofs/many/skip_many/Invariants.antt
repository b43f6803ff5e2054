use Rattle.std.proofs.Common.{ℕ, ◌-◌, ◌≡◌, Result}
use Rattle.faults.specs.declared.FileError.{FileError}
use Rattle.fields.specs.declared.cursor.Cursor.{Cursor}
use Rattle.fields.specs.Answers.{step_of}
use Rattle.format.specs.Read.{Read, ending, repeat}
use Rattle.fields.proofs.many.skip_many.Given as goal

abbrev pub invariant-loop : goal.invariant-loop
invariant-loop g l =
    goal.F-IsAlwaysCallable g l.one
    × ((read : ℕ → Read (Unit {0})) → ((here : Cursor) (r : Result Cursor FileError) → goal.F-post g l.one here r → step_of r ≡ read here.at)
    → ending (repeat read (l.count - l.counter) l.here.at) ≡ ending (repeat read l.count l.initial.here.at))
