use Rattle.std.proofs.Common.{sym, ◌∙◌}
use Rattle.std.proofs.lemmas.Result.{err_from_is_err_and}
use Rattle.model.specs.declared.BusCommand.TheVariants as buses
use Rattle.model.specs.Answers.{Done}
use Rattle.controlcommands.specs.Buses.{Steps, bad_value, fill_no_bus, fill_done, fill_bad_value}
use Rattle.controlcommands.proofs.buses.fill_range.Goals as goal

pub returns-then-not-is_bus_range : goal.returns-then-not-is_bus_range
returns-then-not-is_bus_range c = fill_no_bus c.args.start c.args.count c.args.value c.args.words.now (sym c.is_bus_range.ensures ∙ c.if-not-is_bus_range.true)

pub returns-in_err-pattern : goal.returns-in_err-pattern
returns-in_err-pattern c =
    let a = c.args in
    let p = err_from_is_err_and c.from_residual.result c.from_residual.ensures.1 in
    rw (p.1, p.2, bad_value _ _ _ c.in_err-pattern.ensures.value)
    (fill_bad_value a.start a.count a.value a.words.now (sym c.is_bus_range.ensures ∙ c.if-not-is_bus_range.false) (sym c.value_pattern.ensures ∙ c.in_err-pattern.ensures.ok_part))

pub returns : goal.returns
returns c =
    let a = c.args in
    let done : Steps (buses.Fill a.start a.count a.value) a.words.now Done _ = fill_done a.start a.count a.value a.words.now c.requires (sym c.is_bus_range.ensures ∙ c.if-not-is_bus_range.false) c.in_ok-pattern.pattern (sym c.value_pattern.ensures ∙ c.in_ok-pattern.ensures.ok_part) in
    rw c.fill_buses.ensures done
