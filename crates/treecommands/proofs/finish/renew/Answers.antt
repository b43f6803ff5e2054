-- `treecommands::finish::renew` meets its contract: the parts one after the other.
use Rattle.treecommands.specs.Settle.{order_changed, edited_sorted, renewed_by}
use Rattle.treecommands.proofs.finish.renew.Goals as goal

pub renew_order-many-requires : goal.renew_order-many-requires
renew_order-many-requires c = (c.requires.size, c.requires.edited.ground.few_after)

pub renew_index-requires : goal.renew_index-requires
renew_index-requires c =
    let a = c.args in
    order_changed a.edit a.count a.words.now c.requires c.renew_order-many.new.words c.renew_order-many.ensures.0

pub renew_header-requires : goal.renew_header-requires
renew_header-requires c =
    let a = c.args in
    let there = order_changed a.edit a.count a.words.now c.requires c.renew_order-many.new.words c.renew_order-many.ensures.0 in
    edited_sorted a.edit a.count c.renew_order-many.new.words there c.renew_index.new.words c.renew_index.ensures

pub returns : goal.returns
returns c =
    let a = c.args in
    renewed_by a.count c.requires.edited.ground.few_after a.words.now c.requires.size c.renew_order-many.new.words c.renew_order-many.result c.renew_order-many.ensures c.renew_index.new.words c.renew_index.ensures c.renew_header.new.words c.renew_header.ensures
