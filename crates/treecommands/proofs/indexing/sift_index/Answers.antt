-- `treecommands::indexing::sift_index` meets its contract: the entries follow their nodes in the region.
use Rattle.treecommands.specs.Indexing.{sifted_index}
use Rattle.treecommands.proofs.indexing.sift_index.Goals as goal

pub returns : goal.returns
returns c =
    let a = c.args in
    let ws = a.words.now in
    sifted_index a.count ws c.follow_places.new.index c.follow_places.result a.places.now c.requires (rw c.wide-before.ensures at c.follow_places.ensures)
