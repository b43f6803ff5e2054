-- `tree::moves::set_depths` meets its contract. The invariant: the records before i are changed.
use mathlib.Core.Path.{◌≡◌}
use Rattle.tree.specs.Depths.{releveled}
use Rattle.tree.proofs.moves.set_depths.Given as goal

abbrev pub invariant-loop-i : goal.invariant-loop-i
invariant-loop-i l = l.nodes ≡ releveled l.old l.new l.initial.nodes l.from l.i
