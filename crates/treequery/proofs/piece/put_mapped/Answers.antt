use native.Mathlib.Omega.{arith}
use Rattle.osc.specs.Lengths.{padded_size}
use Rattle.treequery.specs.Pieces.{mapped_text, digits_few, mapped_put}
use Rattle.treequery.proofs.piece.put_mapped.Goals as goal

pub put_decimal-requires : goal.put_decimal-requires
put_decimal-requires c = record { small = c.requires.small; room = omega (arith, c.decimal_length-digits.ensures, padded_size (mapped_text c.args.bus), digits_few c.args.bus) }

pub overflow_add-at-3 : goal.overflow_add-at-3
overflow_add-at-3 c = omega (arith, c.decimal_length-digits.ensures, padded_size (mapped_text c.args.bus), digits_few c.args.bus)

pub overflow_add-digits : goal.overflow_add-digits
overflow_add-digits c = omega (arith, c.decimal_length-digits.ensures, padded_size (mapped_text c.args.bus), digits_few c.args.bus)

pub put_zeros-requires : goal.put_zeros-requires
put_zeros-requires c = omega (arith, c.decimal_length-digits.ensures, padded_size (mapped_text c.args.bus), digits_few c.args.bus)

pub returns : goal.returns
returns c =
    let a = c.args in
    mapped_put a.bus a.at a.out.now c.put_byte.new.out c.put_decimal.new.out c.put_zeros.new.out c.decimal_length-digits.result
    c.decimal_length-digits.ensures c.requires.room c.put_byte.ensures c.put_decimal.ensures c.put_zeros.ensures
