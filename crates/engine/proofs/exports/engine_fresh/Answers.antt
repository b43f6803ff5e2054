-- `engine::exports::engine_fresh` meets its contract.
use mathlib.Core.Path.{◌≡◌, ap, ◌∙◌}
use native.Mathlib.Omega.{arith}
use Rattle.model.specs.Apply.{fresh_answer}
use Rattle.calls.specs.Numbers.{call_number}
use Rattle.engine.specs.CallsLaws.{fresh_small}
use Rattle.engine.proofs.exports.engine_fresh.Goals as goal

pub overflow_cast-result : goal.overflow_cast-result
overflow_cast-result c =
    let a = c.args in
    let fact : c.call_number.result ≡ call_number (fresh_answer a.words.now a.arena.now) = c.call_number.ensures ∙ ap call_number c.fresh.ensures.answers in
    omega (arith, fresh_small a.words.now a.arena.now)

pub returns : goal.returns
returns c =
    record { answer = c.fresh.result; number = c.call_number.ensures; made = c.fresh.ensures }
