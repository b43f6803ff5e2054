use Rattle.std.proofs.Common.{refl, sym, ◌∙◌, arith}
use Rattle.std.proofs.lemmas.Result.{err_from_is_err_and}
use Rattle.units.specs.Marks.{unit_place, place_up, marking_same}
use Rattle.units.specs.Units.{stands_first, stands_marked, stands_next, stands_bad, stands_done}
use Rattle.units.proofs.run.read_marked.Goals as goal

pub loop-i-init : goal.loop-i-init
loop-i-init c =
    let a = c.args in
    (stands_first a.scope.width a.scope.constants a.s.now a.scope.start a.count _ a.scope.stride a.marks.now refl c.requires.0 c.requires.1, refl)

pub overflow_sub-here : goal.overflow_sub-here
unfolding unit_place
overflow_sub-here c =
    let a = c.args in
    omega (arith, c.loop-i.invariant.0.stood.here, place_up a.scope.width a.s.now a.scope.start 0 c.loop-i.i (omega arith))

pub read_run-requires : goal.read_run-requires
read_run-requires c =
    let a = c.args in
    let st = stands_marked a.scope.width a.scope.constants a.s.now a.scope.start a.count c.loop-i.invariant.0 c.mark_unit-known.ensures in
    (omega (arith, c.run_end-to.ensures), st.stood)

pub returns-in_err-fields : goal.returns-in_err-fields
returns-in_err-fields c =
    let a = c.args in
    let p = err_from_is_err_and c.from_residual.result c.from_residual.ensures.1 in
    let st = stands_marked a.scope.width a.scope.constants a.s.now a.scope.start a.count c.loop-i.invariant.0 c.mark_unit-known.ensures in
    let to = c.run_end-to.ensures in
    rw (p.1, p.2) (sym (stands_bad a.scope.width a.scope.constants a.s.now a.scope.start a.count st _ (omega (arith, to)) to.1 c.in_err-fields.ensures))

pub loop-i-preserved : goal.loop-i-preserved
loop-i-preserved c =
    let a = c.args in
    let m = c.mark_unit-known.ensures in
    let st = stands_marked a.scope.width a.scope.constants a.s.now a.scope.start a.count c.loop-i.invariant.0 m in
    let to = c.run_end-to.ensures in
    (stands_next a.scope.width a.scope.constants a.s.now a.scope.start a.count st _ (omega (arith, to)) to.1 c.in_ok-fields.ensures, marking_same m ∙ c.loop-i.invariant.1)

pub returns : goal.returns
returns c =
    let a = c.args in
    sym (stands_done a.scope.width a.scope.constants a.s.now a.scope.start a.count c.loop-i.invariant.0 c.loop-i-test.false)
