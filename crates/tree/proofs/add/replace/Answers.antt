-- `tree::add::replace` meets its contract: the run but for its first record taken out, and the new one written over that.
use Rattle.tree.specs.Gaps.{left_room, replace_leaves}
use Rattle.tree.proofs.add.replace.Goals as goal

pub put_node-requires : goal.put_node-requires
put_node-requires c =
    let a = c.args in
    left_room a.nodes.now a.count a.at a.end a.node c.requires.0 c.requires.1.0 c.requires.1.1 c.remove-left.new.nodes c.remove-left.result c.remove-left.ensures

pub returns : goal.returns
returns c =
    let a = c.args in
    replace_leaves a.nodes.now a.count a.at a.end a.node c.requires.0 c.requires.1.0 c.requires.1.1 c.remove-left.new.nodes c.remove-left.result c.remove-left.ensures c.put_node.new.nodes c.put_node.ensures
