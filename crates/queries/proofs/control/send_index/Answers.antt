use Rattle.std.proofs.Common.{[]}
use Rattle.queries.specs.Control.{index_message}
use Rattle.queries.proofs.control.send_index.Goals as goal

pub returns : goal.returns
returns c = rw (index_message c.args.number c.args.index c.args.value []) at c.send_words.ensures
