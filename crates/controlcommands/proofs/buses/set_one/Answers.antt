use Rattle.std.proofs.Common.{sym, ◌∙◌}
use Rattle.std.proofs.lemmas.Result.{err_from_is_err_and}
use Rattle.model.specs.declared.BusCommand.TheVariants as buses
use Rattle.model.specs.Answers.{Done}
use Rattle.controlcommands.specs.Buses.{Steps, bad_value, set_no_bus, set_done, set_bad_value}
use Rattle.controlcommands.proofs.buses.set_one.Goals as goal

pub returns-then-not-is_bus : goal.returns-then-not-is_bus
returns-then-not-is_bus c = set_no_bus c.args.bus c.args.value c.args.words.now (sym c.is_bus.ensures ∙ c.if-not-is_bus.true)

pub returns-in_err-pattern : goal.returns-in_err-pattern
returns-in_err-pattern c =
    let p = err_from_is_err_and c.from_residual.result c.from_residual.ensures.1 in
    rw (p.1, p.2, bad_value _ _ _ c.in_err-pattern.ensures.value)
    (set_bad_value c.args.bus c.args.value c.args.words.now (sym c.is_bus.ensures ∙ c.if-not-is_bus.false) (sym c.value_pattern.ensures ∙ c.in_err-pattern.ensures.ok_part))

pub returns : goal.returns
returns c =
    let a = c.args in
    let done : Steps (buses.Set a.bus a.value) a.words.now Done _ = set_done a.bus a.value a.words.now (sym c.is_bus.ensures ∙ c.if-not-is_bus.false) c.in_ok-pattern.pattern (sym c.value_pattern.ensures ∙ c.in_ok-pattern.ensures.ok_part) in
    rw c.set_bus.ensures done
