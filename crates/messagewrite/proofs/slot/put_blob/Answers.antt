use Prim.Native.Nat.{ℕ, ◌+◌, ◌-◌, ◌%◌}
use mathlib.Core.Path.{refl}
use native.Mathlib.Omega.{arith}
use lib.ListN.{length, replicate, length-replicate}
use Rattle.words.specs.Bytes.{bytes32}
use Rattle.messagewrite.specs.Pieces.{three_parts}
use Rattle.messagewrite.proofs.slot.put_blob.Goals as goal

pub returns : goal.returns
returns c =
    let a = c.args in
    let s = a.bytes.now in
    let size = length s in
    let zeros = (4 - size % 4) % 4 in
    three_parts a.at (bytes32 size) s a.out.now c.put_int.new.out c.put_bytes.new.out (a.at + 4) (omega arith) c.put_int.ensures c.put_bytes.ensures
    (replicate zeros 0) c.put_zeros.new.out (a.at + 4 + size) refl (omega (arith, length-replicate {A = ℕ} zeros 0)) c.put_zeros.ensures
