use Rattle.definitions.specs.Exporting.{body_from}
use Prim.Native.Nat.{◌+◌, ◌*◌, ◌≤◌}
use mathlib.Core.Path.{◌≡◌}
use lib.ListN.{length}
use Rattle.format.specs.Reader.{size_limit}
use Rattle.definitions.proofs.export_length.Given as goal

abbrev pub invariant-loop-k : goal.invariant-loop-k
invariant-loop-k l = ((l.n ≤ 10 + size_limit * l.k) × (l.n + length (body_from l.table l.arena l.k) ≡ 10 + length (body_from l.table l.arena 0)))
