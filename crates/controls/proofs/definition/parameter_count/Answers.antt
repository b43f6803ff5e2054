use mathlib.Core.Path.{ap, ◌∙◌}
use Rattle.controls.specs.Encoded.{number_or, parameters_fact}
use Rattle.controls.proofs.definition.parameter_count.Goals as goal

pub returns : goal.returns
returns c = ap number_or c.parameters.ensures ∙ parameters_fact c.args.definition.now
