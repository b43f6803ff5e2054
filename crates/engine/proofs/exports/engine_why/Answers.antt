-- `engine::exports::engine_why` meets its contract.
use mathlib.Core.Path.{ap, ◌∙◌}
use Rattle.why.specs.Numbers.{told_number}
use Rattle.engine.proofs.exports.engine_why.Goals as goal

pub returns : goal.returns
returns c = c.told_number.ensures ∙ ap told_number c.why.ensures
