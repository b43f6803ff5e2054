use mathlib.Core.Path.{sym}
use native.Mathlib.Omega.{arith}
use Rattle.controls.specs.Synth.{row_word}
use Rattle.controls.proofs.node.node_row.Goals as goal

pub returns : goal.returns
returns c = sym (row_word c.args.words.now c.args.place (omega arith))
