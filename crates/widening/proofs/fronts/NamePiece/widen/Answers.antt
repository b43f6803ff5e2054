use Rattle.widening.specs.Moved.{moved_then}
use Rattle.widening.specs.Pieces.{integer_wide}
use Prim.Native.Nat.{◌+◌}
use Rattle.widening.proofs.fronts.NamePiece.widen.Goals as goal

pub returns : goal.returns
returns c =
    moved_then (integer_wide c.args.s.now) (λ p. p + 2) c.keep_text.ensures c.integer.ensures c.requires.fits
