use Rattle.std.proofs.Common.{◌∙◌, take}
use Rattle.order.specs.Same.{same_pointwise}
use Rattle.order.proofs.same_numbers.Goals as goal

pub returns : goal.returns
returns c = c.eq.ensures ∙ same_pointwise (take c.args.many c.args.kept.now) (take c.args.many c.args.fresh.now)
