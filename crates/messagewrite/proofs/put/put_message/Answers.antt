use Prim.Native.Nat.{ℕ, ◌+◌, ◌-◌, ◌%◌}
use mathlib.Core.Path.{◌≡◌, ap, ◌∙◌}
use mathlib.Core.List.{◌∷◌}
use native.Mathlib.Omega.{arith}
use lib.ListN.{length}
use Rattle.osc.specs.Message.{tags, arguments, padded}
use Rattle.osc.specs.Lengths.{padded_size, tags_size}
use Rattle.messages.specs.Table.{give_all}
use Rattle.messages.specs.Rows.{slots_of, address_of}
use Rattle.messagewrite.specs.Codes.{given}
use Rattle.messagewrite.specs.Slots.{given_count, arguments_size}
use Rattle.messagewrite.specs.Pieces.{three_parts}
use Rattle.messagewrite.proofs.put.put_message.Goals as goal

pub put_tag_string-requires : goal.put_tag_string-requires
put_tag_string-requires c =
    let a = c.args in
    let p = c.requires in
    let op = a.numbers.op in
    let address = address_of op in
    let first : c.padded_length-start.result ≡ length address + (4 - length address % 4) = c.padded_length-start.ensures ∙ ap (λ (k : ℕ). k + (4 - k % 4)) c.address_length-size.ensures in
    let second : c.padded_length.result ≡ length (slots_of op) + 1 + (4 - (length (slots_of op) + 1) % 4) = c.padded_length.ensures ∙ ap (λ (k : ℕ). k + 1 + (4 - (k + 1) % 4)) p.is in
    record { is = p.is; room = omega arith }

pub put_arguments-requires : goal.put_arguments-requires
put_arguments-requires c =
    let a = c.args in
    let p = c.requires in
    let op = a.numbers.op in
    let address = address_of op in
    let first : c.padded_length-start.result ≡ length address + (4 - length address % 4) = c.padded_length-start.ensures ∙ ap (λ (k : ℕ). k + (4 - k % 4)) c.address_length-size.ensures in
    let second : c.padded_length.result ≡ length (slots_of op) + 1 + (4 - (length (slots_of op) + 1) % 4) = c.padded_length.ensures ∙ ap (λ (k : ℕ). k + 1 + (4 - (k + 1) % 4)) p.is in
    record { is = p.is; fit = p.fit; room = omega arith }

pub returns : goal.returns
returns c =
    let a = c.args in
    let p = c.requires in
    let op = a.numbers.op in
    let address = address_of op in
    let first : c.padded_length-start.result ≡ length address + (4 - length address % 4) = c.padded_length-start.ensures ∙ ap (λ (k : ℕ). k + (4 - k % 4)) c.address_length-size.ensures in
    let second : c.padded_length.result ≡ length (slots_of op) + 1 + (4 - (length (slots_of op) + 1) % 4) = c.padded_length.ensures ∙ ap (λ (k : ℕ). k + 1 + (4 - (k + 1) % 4)) p.is in
    let g = given a.numbers a.bytes.now in
    let args = give_all (slots_of op) g in
    let many : length (44 ∷ tags args) ≡ length (slots_of op) + 1 = let t : length (tags args) ≡ length (slots_of op) = tags_size args ∙ given_count (slots_of op) g in omega arith in
    let string : length (padded (44 ∷ tags args)) ≡ length (slots_of op) + 1 + (4 - (length (slots_of op) + 1) % 4) = padded_size (44 ∷ tags args) ∙ ap (λ (k : ℕ). k + (4 - k % 4)) many in
    let start = c.padded_length-start.result in
    let front = start + c.padded_length.result in
    three_parts 0 (padded address) (padded (44 ∷ tags args)) a.out.now c.put_address.new.out c.put_tag_string.new.out start (omega (arith, padded_size address)) c.put_address.ensures (c.put_tag_string.ensures a.bytes.now)
    (arguments args) c.put_arguments.new.out front (omega arith) (omega (arith, arguments_size (slots_of op) g)) c.put_arguments.ensures
