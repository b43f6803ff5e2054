use Rattle.words.specs.PartsLaws.{region-length}
use Prim.Native.Nat.{◌+◌, ◌-◌}
use mathlib.Core.Path.{◌≡◌, refl}
use native.Mathlib.Omega.{arith}
use Rattle.widening.proofs.places.Places.keep.Goals as goal

pub put_bytes-requires : goal.put_bytes-requires
put_bytes-requires c =
    let k : c.args.self.from + c.args.count - c.args.self.from ≡ c.args.count = omega arith in
    rw k c.requires.fits

pub returns : goal.returns
returns c =
    let k : c.args.self.from + c.args.count - c.args.self.from ≡ c.args.count = omega arith in
    record {
      bytes = rw k at c.put_bytes.ensures;
      from = refl;
      to = rw (region-length c.args.self.from c.args.count c.args.s.now c.requires.inside) refl;
    }
