-- `treecommands::finish::renew_without` meets its contract: the words settled with the next number as it is, and the latest synth unless it was
-- freed.
use mathlib.Core.Path.{sym, ◌∙◌}
use borrow.Author.Rules.{rules}
use Rattle.treecommands.specs.Staying.{settled_latest}
use Rattle.treecommands.proofs.finish.renew_without.Goals as goal

pub settle-requires : goal.settle-requires
settle-requires c = search rules

pub returns : goal.returns
returns c =
    settled_latest c.args.count c.latest_without-latest.result c.args.words.now (c.requires.without ∙ sym c.latest_without-latest.ensures) c.settle.new.words c.settle.ensures
