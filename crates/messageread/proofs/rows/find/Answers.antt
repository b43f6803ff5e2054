use mathlib.Core.Path.{sym, ◌∙◌}
use native.Mathlib.Omega.{arith}
use Rattle.messageread.specs.FindLaws.{few_candidate, find_first, find_second, find_none}
use Rattle.messageread.proofs.rows.find.Goals as goal

pub returns-then-meets_row : goal.returns-then-meets_row
returns-then-meets_row c =
    let a = c.args in
    find_first a.address.now a.tags.now c.candidate-first.result c.candidate-first.ensures (sym c.meets_row.ensures ∙ c.if-meets_row.true)

pub overflow_add-second : goal.overflow_add-second
overflow_add-second c =
    let a = c.args in
    let few = few_candidate a.address.now in
    let is = c.candidate-first.ensures in
    omega arith

pub returns-then-meets_row-2 : goal.returns-then-meets_row-2
returns-then-meets_row-2 c =
    let a = c.args in
    find_second a.address.now a.tags.now c.candidate-first.result c.candidate-first.ensures (sym c.meets_row.ensures ∙ c.if-meets_row.false) (sym c.meets_row-2.ensures ∙ c.if-meets_row-2.true)

pub returns : goal.returns
returns c =
    let a = c.args in
    find_none a.address.now a.tags.now c.candidate-first.result c.candidate-first.ensures (sym c.meets_row.ensures ∙ c.if-meets_row.false) (sym c.meets_row-2.ensures ∙ c.if-meets_row-2.false)
