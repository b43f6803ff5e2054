-- `treecommands::finish::settle` meets its contract: the parts one after the other.
use native.Mathlib.Omega.{arith}
use Rattle.treecommands.specs.Settle.{order_changed, settled_by}
use Rattle.treecommands.proofs.finish.settle.Goals as goal

pub renew_order-many-requires : goal.renew_order-many-requires
renew_order-many-requires c = (c.requires.size, c.requires.edited.ground.few_after)

pub renew_index-requires : goal.renew_index-requires
renew_index-requires c =
    let a = c.args in
    order_changed a.edit a.count a.words.now c.requires c.renew_order-many.new.words c.renew_order-many.ensures.0

pub overflow_cast-count : goal.overflow_cast-count
overflow_cast-count c = omega (arith, c.requires.edited.ground.few_after)

pub returns : goal.returns
returns c =
    let a = c.args in
    settled_by a.count c.requires.edited.ground.few_after a.words.now c.requires.size c.renew_order-many.new.words c.renew_order-many.result c.renew_order-many.ensures c.renew_index.new.words c.renew_index.ensures a.next a.latest c.write_header.new.words c.write_header.ensures
