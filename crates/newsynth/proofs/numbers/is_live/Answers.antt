-- `newsynth::numbers::is_live` meets its contract: a lookup by the index.
use mathlib.Core.Path.{◌∙◌}
use borrow.Author.Tests.{ne_eqb}
use Rattle.model.specs.Layout.{count_in, node_words}
use Rattle.treecommands.specs.Finding.{lives_found}
use Rattle.newsynth.proofs.numbers.is_live.Goals as goal

pub returns-then-number-ne-MINUS_ONE : goal.returns-then-number-ne-MINUS_ONE
returns-then-number-ne-MINUS_ONE c =
    let a = c.args in
    let ws = a.words.now in
    c.is_some.ensures ∙ rw (ne_eqb a.number 4294967295 c.if-number-ne-MINUS_ONE.true) (lives_found a.number (count_in ws) (node_words ws) c.place_of.result c.place_of.ensures.place c.place_of.ensures.below)
