-- `treecommands::finish::renew_sifted` meets its contract: the parts one after the other.
use Rattle.treecommands.specs.Settle.{order_sifted, sifted_sorted, renewed_by}
use Rattle.treecommands.proofs.finish.renew_sifted.Goals as goal

pub renew_order-many-requires : goal.renew_order-many-requires
renew_order-many-requires c = (c.requires.size, c.requires.moved.ground.few_after)

pub sift_index-requires : goal.sift_index-requires
sift_index-requires c =
    let a = c.args in
    order_sifted a.places.now a.count a.words.now c.requires c.renew_order-many.new.words c.renew_order-many.ensures.0

pub renew_header-requires : goal.renew_header-requires
renew_header-requires c =
    let a = c.args in
    let there = order_sifted a.places.now a.count a.words.now c.requires c.renew_order-many.new.words c.renew_order-many.ensures.0 in
    sifted_sorted a.places.now a.count c.renew_order-many.new.words there c.sift_index.new.words c.sift_index.ensures

pub returns : goal.returns
returns c =
    let a = c.args in
    renewed_by a.count c.requires.moved.ground.few_after a.words.now c.requires.size c.renew_order-many.new.words c.renew_order-many.result c.renew_order-many.ensures c.sift_index.new.words c.sift_index.ensures c.renew_header.new.words c.renew_header.ensures
