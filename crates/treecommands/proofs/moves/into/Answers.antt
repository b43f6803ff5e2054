-- `treecommands::moves::into` meets its contract: each refusal by the check that fires.
use mathlib.Core.Path.{sym, ◌∙◌}
use borrow.Author.Tests.{eq-eqb, ne_eqb}
use Rattle.model.specs.Checks.{into_checks}
use Rattle.treecommands.specs.Sighting.{into_row, clear}
use Rattle.treecommands.proofs.moves.into.Goals as goal
use Rattle.treecommands.proofs.moves.into.Goals.{then-is_synth-via-then-is_synth, then-is_synth-via-else-is_synth+then-a-eq0}

pub returns-then-is_synth : goal.returns-then-is_synth
returns-then-is_synth c =
    let a = c.args in
    elim c.then-is_synth.branch [
      | then-is_synth-via-then-is_synth w ↦ λ bs. into_row a.node a.group a.words.now c.requires _ _ c.in_ok-b.ensures.1 c.in_ok-b.ensures.0 bs ∙ rw (sym c.is_synth.ensures ∙ w.if-is_synth.true)
      | then-is_synth-via-else-is_synth+then-a-eq0 w ↦ λ bs. into_row a.node a.group a.words.now c.requires _ _ c.in_ok-b.ensures.1 c.in_ok-b.ensures.0 bs ∙ rw (sym c.is_synth.ensures ∙ w.if-is_synth.false, eq-eqb c.in_ok-b.a 0 w.if-a-eq0.true)
    ]

pub returns-then-lies_below : goal.returns-then-lies_below
returns-then-lies_below c =
    let a = c.args in
    let inside = rw c.wide-count.ensures at (sym c.lies_below.ensures) ∙ c.if-lies_below.true in
    λ bs. into_row a.node a.group a.words.now c.requires _ _ c.in_ok-b.ensures.1 c.in_ok-b.ensures.0 bs ∙ rw (sym c.is_synth.ensures ∙ c.if-is_synth.false, ne_eqb c.in_ok-b.a 0 c.if-a-eq0.false, inside)

pub returns : goal.returns
returns c =
    let a = c.args in
    let outside = rw c.wide-count.ensures at (sym c.lies_below.ensures) ∙ c.if-lies_below.false in
    clear a.node a.group a.words.now c.requires _ _ c.in_ok-b.ensures.1 c.in_ok-b.ensures.0 (into_checks a.group a.node) outside
    (λ bs. into_row a.node a.group a.words.now c.requires _ _ c.in_ok-b.ensures.1 c.in_ok-b.ensures.0 bs ∙ rw (sym c.is_synth.ensures ∙ c.if-is_synth.false, ne_eqb c.in_ok-b.a 0 c.if-a-eq0.false, outside))
