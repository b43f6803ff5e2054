use Rattle.std.proofs.Common.{sym, arith}
use Rattle.std.proofs.lemmas.Result.{err_from_is_err_and}
use Rattle.format.specs.Reader.{definition_by}
use Rattle.encoding.specs.Encoding.{fields_in}
use Rattle.files.specs.Skips.{kept_bad, skip_definition, count_definition, units_few}
use Rattle.files.proofs.definition.next_definition.Goals as goal

pub returns-in_err-counts : goal.returns-in_err-counts
returns-in_err-counts c =
    let a = c.args in
    let p = err_from_is_err_and c.from_residual.result c.from_residual.ensures.1 in
    let e1 = sym c.in_err-counts.ensures in
    rw (p.1, p.2) (kept_bad fields_in (definition_by a.width a.s.now a.cursor.at) (rw (skip_definition a.width a.s.now a.cursor.at, e1)), c.requires)

pub returns-in_err-fields : goal.returns-in_err-fields
returns-in_err-fields c =
    let a = c.args in
    let p = err_from_is_err_and c.from_residual-in_err-fields.result c.from_residual-in_err-fields.ensures.1 in
    let e1 = sym c.in_ok-counts.ensures in
    let e2 = sym c.in_err-fields.ensures.0 in
    rw (p.1, p.2) (kept_bad fields_in (definition_by a.width a.s.now a.cursor.at) (rw (skip_definition a.width a.s.now a.cursor.at, e1, e2)), c.counted_units.ensures.1)

pub returns-in_err-next : goal.returns-in_err-next
returns-in_err-next c =
    let a = c.args in
    let p = err_from_is_err_and c.from_residual-in_err-next.result c.from_residual-in_err-next.ensures.1 in
    let e1 = sym c.in_ok-counts.ensures in
    let e2 = sym c.in_ok-fields.ensures.0 in
    let e3 = sym c.in_err-next.ensures in
    rw (p.1, p.2) (kept_bad fields_in (definition_by a.width a.s.now a.cursor.at) (rw (skip_definition a.width a.s.now a.cursor.at, e1, e2, e3)), c.counted_units.ensures.1)

pub overflow_add-result-2 : goal.overflow_add-result-2
overflow_add-result-2 c =
    let a = c.args in
    omega (arith, units_few a.width _ a.s.now _ (sym c.in_ok-fields.ensures.0))

pub returns : goal.returns
returns c =
    let a = c.args in
    let e1 = sym c.in_ok-counts.ensures in
    let e2 = sym c.in_ok-fields.ensures.0 in
    let e3 = sym c.in_ok-next.ensures in
    (rw c.wide.ensures (sym (count_definition a.width a.s.now a.cursor.at e1 e2 e3)), c.counted_units.ensures.1)
