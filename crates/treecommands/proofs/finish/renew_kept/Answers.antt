-- `treecommands::finish::renew_kept` meets its contract: the words settled with the next number and the latest synth as they are.
use borrow.Author.Rules.{rules}
use Rattle.treecommands.specs.Staying.{settled-renewed}
use Rattle.treecommands.proofs.finish.renew_kept.Goals as goal

pub settle-requires : goal.settle-requires
settle-requires c = search rules

pub returns : goal.returns
returns c =
    settled-renewed c.args.count c.args.words.now c.requires.stays c.settle.new.words c.settle.ensures
