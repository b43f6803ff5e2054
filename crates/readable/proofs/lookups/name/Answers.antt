use Rattle.readable.specs.Readable.{name_fact}
use mathlib.Core.Path.{◌∙◌}
use Rattle.readable.proofs.lookups.name.Goals as goal

pub returns : goal.returns
returns c =
    let k = c.requires in
    c.name_at.ensures ∙ name_fact c.args.s.now k
