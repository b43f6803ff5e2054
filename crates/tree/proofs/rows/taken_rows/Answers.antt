-- `tree::rows::taken_rows` meets its contract: the marks of both runs.
use mathlib.Core.Bool.{Bool}
use mathlib.Core.Path.{ap, ◌∙◌}
use native.Mathlib.Omega.{arith}
use lib.ListN.{drop}
use Rattle.words.specs.Choice.{either}
use Rattle.nodes.specs.Table.{rows}
use Rattle.nodes.specs.Formed.{row_taken}
use Rattle.tree.specs.FreeRow.{taken_beside}
use Rattle.tree.proofs.rows.taken_rows.Goals as goal

pub returns : goal.returns
returns c k h =
    let a = c.args in
    let us = a.nodes.now in
    c.mark_rows-2.ensures.1 k h
    ∙ ap (λ (b : Bool). either b (row_taken k (drop a.to (rows a.count us)))) (c.mark_rows.ensures.1 k h)
    ∙ taken_beside a.count us a.from a.to k (omega (arith, c.requires.0, c.requires.1.0)) h
