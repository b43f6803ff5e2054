-- `treecommands::finish::renew_header` meets its contract: the latest stays where its number was found.
use mathlib.Core.Bool.{true, false}
use mathlib.Core.Path.{◌≡◌, ◌∙◌}
use Rattle.nodes.specs.Place.{lives}
use Rattle.nodes.specs.Table.{rows}
use Rattle.model.specs.Layout.{latest_in, node_words}
use Rattle.treecommands.specs.Finding.{lives_found}
use Rattle.treecommands.proofs.finish.renew_header.Goals as goal

pub returns-then-lives : goal.returns-then-lives
returns-then-lives c =
    let a = c.args in
    let us = node_words a.words.now in
    let n = latest_in a.words.now in
    let found = lives_found n a.count us c.find_indexed.result c.find_indexed.ensures.settled.right c.find_indexed.ensures.below in
    let there : lives n (rows a.count us) ≡ true = cc in
    c.write_header.ensures ∙ rw there

pub returns-else-lives : goal.returns-else-lives
returns-else-lives c =
    let a = c.args in
    let us = node_words a.words.now in
    let n = latest_in a.words.now in
    let found = lives_found n a.count us c.find_indexed.result c.find_indexed.ensures.settled.right c.find_indexed.ensures.below in
    let gone : lives n (rows a.count us) ≡ false = cc in
    c.write_header-else-lives.ensures ∙ rw gone
