use Rattle.names.specs.Judged.{judged}
use Rattle.names.proofs.node_place.Goals as goal

pub returns : goal.returns
returns c =
    rw c.ok_or.ensures.value (judged c.args.argument c.args.words.now c.meant_place.result c.meant_place.ensures.named c.meant_place.ensures.below)
