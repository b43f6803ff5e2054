use Prim.Native.Nat.{ℕ}
use mathlib.Core.Path.{sym, ap}
use native.Mathlib.Omega.{arith}
use lib.Dec.{eqb}
use Rattle.names.specs.Records.{slot_word}
use Rattle.names.proofs.node_is_group.Goals as goal

pub returns : goal.returns
returns c = ap (λ (k : ℕ). eqb k 32) (sym (slot_word c.args.words.now c.args.place (omega arith)))
