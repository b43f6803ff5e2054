-- `treecommands::moves::beside` meets its contract: each refusal by the check that fires.
use mathlib.Core.Path.{sym, ◌∙◌}
use borrow.Author.Tests.{eq-eqb, ne_eqb}
use Rattle.model.specs.Checks.{beside_checks}
use Rattle.treecommands.specs.Sighting.{beside_row, clear}
use Rattle.treecommands.proofs.moves.beside.Goals as goal
use Rattle.treecommands.proofs.moves.beside.Goals.{then-a-eq0-via-then-a-eq0, then-a-eq0-via-else-a-eq0+then-b-eq0}

pub returns-then-a-eq0 : goal.returns-then-a-eq0
returns-then-a-eq0 c =
    let a = c.args in
    elim c.then-a-eq0.branch [
      | then-a-eq0-via-then-a-eq0 w ↦ λ bs. beside_row a.node a.place a.words.now c.requires _ _ c.in_ok-a.ensures.0 c.in_ok-a.ensures.1 bs ∙ rw (eq-eqb c.in_ok-a.a 0 w.if-a-eq0.true)
      | then-a-eq0-via-else-a-eq0+then-b-eq0 w ↦ λ bs. beside_row a.node a.place a.words.now c.requires _ _ c.in_ok-a.ensures.0 c.in_ok-a.ensures.1 bs ∙ rw (ne_eqb c.in_ok-a.a 0 w.if-a-eq0.false, eq-eqb c.in_ok-a.b 0 w.if-b-eq0.true)
    ]

pub returns-then-lies_below : goal.returns-then-lies_below
returns-then-lies_below c =
    let a = c.args in
    let inside = rw c.wide-count.ensures at (sym c.lies_below.ensures) ∙ c.if-lies_below.true in
    λ bs. beside_row a.node a.place a.words.now c.requires _ _ c.in_ok-a.ensures.0 c.in_ok-a.ensures.1 bs ∙ rw (ne_eqb c.in_ok-a.a 0 c.if-a-eq0.false, ne_eqb c.in_ok-a.b 0 c.if-b-eq0.false, inside)

pub returns : goal.returns
returns c =
    let a = c.args in
    let outside = rw c.wide-count.ensures at (sym c.lies_below.ensures) ∙ c.if-lies_below.false in
    clear a.node a.place a.words.now c.requires _ _ c.in_ok-a.ensures.0 c.in_ok-a.ensures.1 (beside_checks a.node a.place) outside
    (λ bs. beside_row a.node a.place a.words.now c.requires _ _ c.in_ok-a.ensures.0 c.in_ok-a.ensures.1 bs ∙ rw (ne_eqb c.in_ok-a.a 0 c.if-a-eq0.false, ne_eqb c.in_ok-a.b 0 c.if-b-eq0.false, outside))
