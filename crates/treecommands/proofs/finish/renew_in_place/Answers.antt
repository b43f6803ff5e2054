-- `treecommands::finish::renew_in_place` meets its contract: the index is right as it is, and so is the latest synth.
use borrow.Author.Rules.{rules}
use Rattle.model.specs.Layout.{next_in, latest_in}
use Rattle.treecommands.specs.Settle.{settled_there}
use Rattle.treecommands.specs.Staying.{settled-renewed}
use Rattle.treecommands.proofs.finish.renew_in_place.Goals as goal

pub renew_order-many-requires : goal.renew_order-many-requires
renew_order-many-requires c = search rules

pub returns : goal.returns
returns c =
    let ws = c.args.words.now in
    settled-renewed c.args.count ws c.requires.1 c.write_header.new.words
    (settled_there c.args.count c.requires.0.few ws c.requires.0.size c.renew_order-many.new.words c.renew_order-many.result c.renew_order-many.ensures c.requires.0 (next_in ws) (latest_in ws) c.write_header.new.words c.write_header.ensures)
