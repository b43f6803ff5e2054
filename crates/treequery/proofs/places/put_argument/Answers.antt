use native.Mathlib.Omega.{arith}
use Rattle.treequery.specs.Places.{piece_bytes_size}
use Rattle.treequery.specs.Writing.{wrote_piece}
use Rattle.treequery.proofs.places.put_argument.Goals as goal

pub piece_size-size-requires : goal.piece_size-size-requires
piece_size-size-requires c = c.requires.short

pub piece_tag-requires : goal.piece_tag-requires
piece_tag-requires c = tt

pub put_byte-requires : goal.put_byte-requires
put_byte-requires c = omega (arith, c.requires.room.apart, c.requires.room.room)

pub put_piece-requires : goal.put_piece-requires
put_piece-requires c =
    let size = piece_bytes_size c.args.definition.now c.args.piece in
    record { short = c.requires.short; small = c.requires.small; room = omega (arith, c.requires.room.room) }

pub overflow_add-result : goal.overflow_add-result
overflow_add-result c = omega (arith, c.requires.room.apart, c.requires.room.room)

pub overflow_add-result-2 : goal.overflow_add-result-2
overflow_add-result-2 c =
    let size = piece_bytes_size c.args.definition.now c.args.piece in
    omega (arith, c.requires.room.room, c.piece_size-size.ensures.is)

pub returns : goal.returns
returns c =
    let d = c.args.definition.now in
    wrote_piece d c.args.piece c.args.places c.args.out.now c.put_byte.new.out c.put_piece.new.out c.piece_tag.result c.piece_size-size.result (c.piece_tag.ensures d) c.piece_size-size.ensures.is
    c.put_byte.ensures c.put_piece.ensures
