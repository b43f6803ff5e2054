use Prim.Native.Nat.{◌+◌, ◌-◌}
use mathlib.Core.Path.{ap}
use native.Mathlib.Omega.{arith}
use lib.ListN.{length}
use Rattle.words.specs.Parts.{region}
use Rattle.treequery.specs.Pieces.{piece_argument, mapped_text, digits_few, part_short, sized_text}
use Rattle.treequery.proofs.piece.piece_size.Goals as goal

pub overflow_add-decimal_length : goal.overflow_add-decimal_length
overflow_add-decimal_length c = omega (arith, c.decimal_length.ensures, digits_few c.in-Mapped.bus)

pub padded_length-requires-in-Mapped : goal.padded_length-requires-in-Mapped
padded_length-requires-in-Mapped c = omega (arith, c.decimal_length.ensures, digits_few c.in-Mapped.bus)

pub returns-in-Part : goal.returns-in-Part
returns-in-Part c =
    let s = c.args.definition.now in
    let t = region c.in-Part.start (c.in-Part.end - c.in-Part.start) s in
    sized_text s c.args.piece t (length c.part.result.now) c.padded_length.result (ap (piece_argument s) c.in-Part.is) (ap length c.part.ensures)
    (omega (arith, part_short c.in-Part.start (c.in-Part.end - c.in-Part.start) s)) c.padded_length.ensures

pub returns-in-Mapped : goal.returns-in-Mapped
returns-in-Mapped c =
    let s = c.args.definition.now in
    sized_text s c.args.piece (mapped_text c.in-Mapped.bus) (1 + c.decimal_length.result) c.padded_length-in-Mapped.result (ap (piece_argument s) c.in-Mapped.is) (omega (arith, c.decimal_length.ensures))
    (omega (arith, digits_few c.in-Mapped.bus)) c.padded_length-in-Mapped.ensures
