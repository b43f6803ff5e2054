-- `store::put::put_name` meets its contract: the contents behind the head.
use Prim.Native.Nat.{◌+◌}
use mathlib.Core.Path.{refl, ap, ◌∙◌}
use mathlib.Core.List.{◌∷◌}
use native.Mathlib.Omega.{arith}
use lib.ListN.{length}
use Rattle.words.specs.Parts.{over}
use Rattle.words.specs.Bytes.{bytes16}
use Rattle.osc.specs.Over.{over_over}
use Rattle.store.proofs.put.put_name.Goals as goal

pub returns : goal.returns
returns c =
    let a = c.args in
    c.put_bytes.ensures
    ∙ ap (over (a.at + 3) a.name.now) c.put_head.ensures
    ∙ over_over a.at (a.at + 3) (1 ∷ bytes16 (length a.name.now)) a.name.now a.bytes.now refl (omega arith)
