-- `tree::runs::put_node` meets its contract: five stores are `sets`, whose law is `sets-eq`.
use Prim.Native.Nat.{◌*◌}
use native.Mathlib.Omega.{arith}
use native.Mathlib.Numerals.{add-one, add-two, add-three, add-four}
use lib.Seq.{sets-eq}
use Rattle.nodes.specs.Table.{width, words_of}
use Rattle.tree.proofs.runs.put_node.Goals as goal

pub returns : goal.returns
returns c =
    let at = width * c.args.at in
    rw (add-one at, add-two at, add-three at, add-four at) (sets-eq (words_of c.args.node) c.args.nodes.now at (omega arith))
