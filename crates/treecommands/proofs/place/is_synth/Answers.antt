-- `treecommands::place::is_synth` meets its contract: a node that is no group is a synth.
use mathlib.Core.Bool.{not}
use mathlib.Core.Path.{ap}
use native.Mathlib.Omega.{arith}
use Rattle.treecommands.proofs.place.is_synth.Goals as goal

pub node_is_group-requires : goal.node_is_group-requires
node_is_group-requires c = (c.requires.0.size, omega (arith, c.requires.0.few))

pub returns : goal.returns
returns c = ap not c.node_is_group.ensures
