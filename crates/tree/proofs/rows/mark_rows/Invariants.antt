-- `tree::rows::mark_rows` meets its contract. The invariant: a row is to be marked where it is, or where a record from i on has it.
use Prim.Native.Nat.{ℕ}
use mathlib.Core.Bool.{false}
use lib.ListN.{drop, get_or}
use Rattle.words.specs.Choice.{either}
use Rattle.nodes.specs.Table.{rows}
use Rattle.nodes.specs.Formed.{row_taken}
use Rattle.tree.specs.FreeRow.{Marked}
use Rattle.tree.proofs.rows.mark_rows.Given as goal

abbrev pub invariant-loop-i : goal.invariant-loop-i
invariant-loop-i l = Marked l.marks (λ (k : ℕ). either (get_or l.initial.marks k false) (row_taken k (drop l.from (rows l.to l.nodes)))) l.to l.nodes l.i
