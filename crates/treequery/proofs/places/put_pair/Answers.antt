use native.Mathlib.Omega.{arith}
use Rattle.treequery.specs.Places.{pair_size}
use Rattle.treequery.specs.Writing.{wrote_pair}
use Rattle.treequery.proofs.places.put_pair.Goals as goal

pub put_int-requires : goal.put_int-requires
put_int-requires c = omega (arith, pair_size c.args.first c.args.second, c.requires.room)

pub put_int-requires-2 : goal.put_int-requires-2
put_int-requires-2 c = omega (arith, pair_size c.args.first c.args.second, c.requires.room)

pub returns : goal.returns
returns c =
    wrote_pair c.args.first c.args.second c.args.places c.args.out.now c.put_byte.new.out c.put_byte-2.new.out c.put_int.new.out c.put_int-2.new.out
    c.requires c.put_byte.ensures c.put_byte-2.ensures c.put_int.ensures c.put_int-2.ensures
