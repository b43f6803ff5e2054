use Rattle.std.proofs.Common.{arith}
use Rattle.queries.specs.Tally.{tallied_more, tallied_next}
use Rattle.queries.proofs.status.tally.Goals as goal

pub overflow_add-counts : goal.overflow_add-counts
overflow_add-counts c = omega (arith, tallied_next c.args.words.now c.args.from c.args.counted c.requires.0 c.requires.1 _ c.requires.2 _ c.node_slot-slot.ensures)

pub returns : goal.returns
returns c = tallied_more c.args.words.now c.args.from c.args.counted c.requires.0 c.requires.1 _ c.requires.2 _ c.node_slot-slot.ensures
