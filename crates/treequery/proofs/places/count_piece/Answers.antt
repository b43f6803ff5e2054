use native.Mathlib.Omega.{arith}
use Rattle.treequery.specs.Places.{piece_bytes_size}
use Rattle.treequery.proofs.places.count_piece.Goals as goal

pub piece_size-size-requires : goal.piece_size-size-requires
piece_size-size-requires c = c.requires.short

pub returns : goal.returns
returns c =
    let size = piece_bytes_size c.args.definition.now c.args.piece in
    let is = c.piece_size-size.ensures.is in
    let most = c.piece_size-size.ensures.most in
    let fair = c.requires.counts.fair in
    record { moved = record { tag = omega arith; byte = omega arith }; fair = omega arith }
