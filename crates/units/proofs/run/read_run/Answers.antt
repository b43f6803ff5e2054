use Rattle.std.proofs.Common.{suc, ◌+◌, ◌-◌, sym, ◌∙◌, arith}
use Rattle.std.proofs.lemmas.Result.{err_from_is_err_and}
use Rattle.units.specs.Units.{Ran, run_few, run_stood, run_next, run_bad}
use Rattle.units.proofs.run.read_run.Goals as goal

pub returns-in_err-inputs : goal.returns-in_err-inputs
unfolding Ran
returns-in_err-inputs c =
    let a = c.args in
    let p = err_from_is_err_and c.from_residual.result c.from_residual.ensures.1 in
    let st = c.loop-i.invariant.0 in
    let found = sym c.in_err-inputs.ensures in
    rw (p.1, p.2) (st.sized, λ n. sym (c.loop-i.invariant.1 n) ∙ run_bad a.scope.width a.scope.constants a.s.now a.scope.start st ((a.to - c.loop-i.i) + n) ((a.to - suc c.loop-i.i) + n) found (omega arith))

pub overflow_add-fields-in-loop-i : goal.overflow_add-fields-in-loop-i
overflow_add-fields-in-loop-i c =
    let a = c.args in
    omega (arith, c.wide.ensures, run_few a.scope.width a.scope.constants a.s.now a.scope.start c.loop-i.invariant.0 (sym c.in_ok-inputs.ensures))

pub loop-i-preserved : goal.loop-i-preserved
loop-i-preserved c =
    let a = c.args in
    let found = sym c.in_ok-inputs.ensures in
    let st = c.loop-i.invariant.0 in (
      rw (c.wide.ensures, c.wide-in-loop-i.ensures) (run_stood a.scope.width a.scope.constants a.s.now a.scope.start st found),
      λ n. run_next a.scope.width a.scope.constants a.s.now a.scope.start st ((a.to - c.loop-i.i) + n) ((a.to - (c.loop-i.i + 1)) + n) found (omega arith) ∙ c.loop-i.invariant.1 n,
    )
