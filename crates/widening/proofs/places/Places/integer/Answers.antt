use Rattle.words.specs.Parts.{over}
use Rattle.words.specs.Bytes.{bytes32}
use Prim.Native.Nat.{ℕ}
use mathlib.Core.Path.{refl, ap, ◌∙◌}
use Rattle.widening.proofs.places.Places.integer.Goals as goal

pub returns : goal.returns
returns c =
    let a = c.args in
    record {
      bytes = c.put_int.ensures ∙ ap (λ (n : ℕ). over a.self.to (bytes32 n) a.out.now) c.value_at.ensures;
      from = refl;
      to = refl;
    }
