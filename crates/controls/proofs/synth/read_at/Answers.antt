use mathlib.Core.Path.{ap, ◌∙◌}
use Rattle.values.specs.Controls.{shown_by}
use Rattle.controls.proofs.synth.read_at.Goals as goal

pub returns : goal.returns
returns c = c.read.ensures ∙ ap (shown_by c.args.buses.now) c.from_words-control.ensures.value
