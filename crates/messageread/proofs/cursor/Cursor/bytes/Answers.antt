use Prim.Native.Nat.{◌+◌, ◌-◌}
use Rattle.std.proofs.Common.{true, ◌≡◌, refl, arith, le-leb}
use Rattle.format.specs.Fields.{highest32}
use Rattle.messageread.proofs.cursor.Cursor.bytes.Goals as goal

pub returns : goal.returns
returns c =
    let a = c.args in
    let size : a.self.at + a.n - a.self.at ≡ a.n = omega arith in
    rw (le-leb a.n highest32 (omega arith)) (rw (c.wide-size.ensures, size) at (c.padded.ensures (λ bytes. true) refl))
