use Rattle.widening.specs.Moved.{moved_then}
use Rattle.widening.specs.Pieces.{integer_wide}
use Prim.Native.Nat.{◌+◌}
use Rattle.widening.proofs.unit.InputPiece.widen.Goals as goal

pub returns : goal.returns
returns c =
    moved_then (integer_wide c.args.s.now) (λ p. p + 2) c.integer.ensures c.integer-2.ensures c.requires.fits
