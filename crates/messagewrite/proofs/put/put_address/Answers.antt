-- `messagewrite::put_address` meets its contract: by how many words the address has.
use Prim.Native.Nat.{ℕ, ◌+◌, ◌-◌, ◌%◌, ◌≤◌, ◌<◌}
use mathlib.Core.Path.{subst}
use native.Mathlib.Omega.{arith}
use lib.ListN.{length}
use Rattle.messages.specs.Rows.{address_of}
use Rattle.messages.specs.TableRows.{some_address}
use Rattle.messagewrite.specs.Addresses.{two_words, three_words, four_words}
use Rattle.messagewrite.proofs.put.put_address.Goals as goal

pub put_int-requires-2 : goal.put_int-requires-2
put_int-requires-2 c =
    let a = c.args in
    let p = c.requires in
    let long = some_address a.op (omega arith) in
    omega arith

pub returns-then-size-lt8 : goal.returns-then-size-lt8
returns-then-size-lt8 c =
    let a = c.args in
    let p = c.requires in
    let some : 0 < length (address_of a.op) = omega arith in
    let room : length (address_of a.op) + (4 - length (address_of a.op) % 4) ≤ length a.out.now = subst (λ (k : ℕ). k + (4 - k % 4) ≤ length a.out.now) p.is p.room in
    two_words a.op some a.out.now room c.address_start.result c.address_middle.result c.address_start.ensures c.address_middle.ensures c.put_int.new.out c.put_int-2.new.out c.put_int.ensures c.put_int-2.ensures (omega arith)

pub returns-then-size-lt12 : goal.returns-then-size-lt12
returns-then-size-lt12 c =
    let a = c.args in
    let p = c.requires in
    let some : 0 < length (address_of a.op) = omega arith in
    let room : length (address_of a.op) + (4 - length (address_of a.op) % 4) ≤ length a.out.now = subst (λ (k : ℕ). k + (4 - k % 4) ≤ length a.out.now) p.is p.room in
    three_words a.op some a.out.now room c.address_start.result c.address_middle.result c.address_start.ensures c.address_middle.ensures c.put_int.new.out c.put_int-2.new.out c.put_int.ensures c.put_int-2.ensures c.address_third.result c.address_third.ensures c.put_int-3.new.out c.put_int-3.ensures (omega arith) (omega arith)

pub returns : goal.returns
returns c =
    let a = c.args in
    let p = c.requires in
    let some : 0 < length (address_of a.op) = omega arith in
    let room : length (address_of a.op) + (4 - length (address_of a.op) % 4) ≤ length a.out.now = subst (λ (k : ℕ). k + (4 - k % 4) ≤ length a.out.now) p.is p.room in
    four_words a.op some a.out.now room c.address_start.result c.address_middle.result c.address_start.ensures c.address_middle.ensures c.put_int.new.out c.put_int-2.new.out c.put_int.ensures c.put_int-2.ensures c.address_third.result c.address_third.ensures c.put_int-3.new.out c.put_int-3.ensures (omega arith) (omega arith) c.put_int-4.new.out c.put_int-4.ensures
