use Prim.Native.Nat.{ℕ, ◌*◌}
use mathlib.Core.Path.{sym, ap, ap₂, ◌∙◌}
use mathlib.Core.List.{List}
use native.Mathlib.Omega.{arith}
use Rattle.words.specs.Parts.{over}
use Rattle.model.specs.Effects.{initial_words}
use Rattle.controls.specs.Encoded.{front_in, values_few}
use Rattle.controls.specs.Initial.{floats_from, values_fact, nothing_written, empty}
use Rattle.controls.proofs.definition.initial_row.Goals as goal

pub write_initial-requires : goal.write_initial-requires
write_initial-requires c =
    let a = c.args in
    let t = values_fact a.definition.now (sym c.values-start.ensures) in
    let few = values_few a.definition.now in
    let end = t.end (omega arith) in
    (omega arith, omega arith)

pub returns-then-count-ne0 : goal.returns-then-count-ne0
returns-then-count-ne0 c =
    let a = c.args in
    let start = c.values-start.result.0 in
    let t = values_fact a.definition.now (sym c.values-start.ensures) in
    c.write_initial.ensures
    ∙ ap₂ (λ (k : ℕ) (xs : List ℕ). over k (initial_words xs) a.controls.now)
    (ap (λ (k : ℕ). 64 * k) c.wide-at.ensures)
    (ap (λ (n : ℕ). floats_from a.definition.now n start) c.wide.ensures ∙ t.same)

pub returns-else-count-ne0 : goal.returns-else-count-ne0
returns-else-count-ne0 c =
    let a = c.args in
    let t = values_fact a.definition.now (sym c.values-start.ensures) in
    sym (nothing_written (64 * a.row) (front_in a.definition.now).values a.controls.now (empty (front_in a.definition.now).values (omega arith)))
