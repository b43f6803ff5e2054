-- `store::put::put_number` meets its contract: the contents behind the head.
use Prim.Native.Nat.{◌+◌}
use mathlib.Core.Path.{refl, ap, ◌∙◌}
use mathlib.Core.List.{◌∷◌}
use native.Mathlib.Omega.{arith}
use Rattle.words.specs.Parts.{over}
use Rattle.words.specs.Bytes.{bytes16, bytes32}
use Rattle.osc.specs.Over.{over_over}
use Rattle.store.proofs.put.put_number.Goals as goal

pub returns : goal.returns
returns c =
    let a = c.args in
    c.put_int.ensures
    ∙ ap (over (a.at + 3) (bytes32 a.number)) c.put_head.ensures
    ∙ over_over a.at (a.at + 3) (a.tag ∷ bytes16 4) (bytes32 a.number) a.bytes.now refl (omega arith)
