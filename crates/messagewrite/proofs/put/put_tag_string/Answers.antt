use Prim.Native.Nat.{ℕ, ◌+◌, ◌-◌, ◌%◌}
use mathlib.Core.Path.{◌≡◌, sym, ap, ◌∙◌}
use mathlib.Core.List.{[], ◌∷◌, ◌++◌}
use native.Mathlib.Omega.{arith}
use lib.ListN.{length, replicate, length-replicate}
use Rattle.osc.specs.Message.{tags}
use Rattle.words.specs.Parts.{over}
use Rattle.osc.specs.Lengths.{tags_size}
use Rattle.messages.specs.Table.{give_all}
use Rattle.messages.specs.Rows.{slots_of}
use Rattle.messagewrite.specs.Codes.{given}
use Rattle.messagewrite.specs.Slots.{given_count}
use Rattle.messagewrite.specs.Pieces.{three_parts}
use Rattle.messagewrite.proofs.put.put_tag_string.Goals as goal

pub returns : goal.returns
returns c =
    let a = c.args in
    let us = a.out.now in
    let slots = slots_of a.numbers.op in
    let zeros = 4 - (a.count + 1) % 4 in
    λ bytes.
    let ts = tags (give_all slots (given a.numbers bytes)) in
    let many : a.count ≡ length ts = c.requires.is ∙ sym (tags_size (give_all slots (given a.numbers bytes)) ∙ given_count slots (given a.numbers bytes)) in
    let whole : a.count + 1 ≡ length (44 ∷ ts) = omega arith in
    three_parts a.at (44 ∷ []) ts us c.put_byte.new.out c.put_tags.new.out (a.at + 1) (omega arith) c.put_byte.ensures (c.put_tags.ensures bytes)
    (replicate zeros 0) c.put_zeros.new.out (a.at + 1 + a.count) (omega arith) (omega (arith, length-replicate {A = ℕ} zeros 0)) c.put_zeros.ensures
    ∙ ap (λ (k : ℕ). over a.at (44 ∷ (ts ++ replicate (4 - k % 4) 0)) us) whole
