use Rattle.model.specs.Engine as engine
use Rattle.words.specs.Choice.{either}
use Rattle.nodes.specs.Table.{rows}
use Prim.Native.Nat.{ℕ, ◌<◌}
use mathlib.Core.Bool.{false}
use mathlib.Core.Path.{◌≡◌}
use lib.ListN.{length, drop, get_or}
use Rattle.definitions.proofs.held_slots.Given as goal

abbrev pub invariant-loop-i : goal.invariant-loop-i
invariant-loop-i l = ((length l.held ≡ 32) × ((k : ℕ) → k < 32 → either (get_or l.held k false) (engine.held k (drop l.i (rows l.count l.nodes))) ≡ engine.held k (rows l.count l.nodes)))
