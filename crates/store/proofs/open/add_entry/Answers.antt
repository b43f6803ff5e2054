-- `store::open::add_entry` meets its contract: three fields put in, the rest zeroed.
use Prim.Native.Nat.{ℕ, ◌+◌}
use mathlib.Core.Path.{◌≡◌, ap, ap₂, ◌∙◌}
use native.Mathlib.Omega.{arith}
use lib.ListN.{length}
use Rattle.words.specs.Parts.{over}
use Rattle.store.specs.Writing.{version_field, highest_field, name_field}
use Rattle.tagged.specs.Fields.{write_field}
use Rattle.tagged.specs.FieldsLaws.{field_length}
use Rattle.store.specs.Edit.{zeroed_from}
use Rattle.store.proofs.open.add_entry.Goals as goal

-- back from the end: zeroed, the version's field, the highest version, the name
pub returns : goal.returns
returns c =
    let a = c.args in
    let s = a.store.now in
    let name = write_field (name_field a.name.now) in
    let high = write_field (highest_field 1) in
    let new = write_field (version_field 1) in
    let head = a.at + (3 + length a.name.now) in
    let long : length name ≡ 3 + length a.name.now = field_length (name_field a.name.now) in
    let here : head ≡ a.at + length name = omega arith in
    let behind : head + 7 ≡ a.at + (length name + 7) = omega arith in
    let rest : head + 14 + a.size ≡ a.at + (length name + (7 + (7 + a.size))) = omega arith in
    record {
      start = omega arith;
      bytes =
          c.zero_from.ensures
          ∙ ap (zeroed_from (head + 14 + a.size))
          (c.put_number-2.ensures ∙ ap (over (head + 7) new) (c.put_number.ensures ∙ ap (over head high) c.put_name.ensures))
          ∙ ap₂ (λ (x y : ℕ). zeroed_from (head + 14 + a.size) (over y new (over x high (over a.at name s)))) here behind
          ∙ ap (λ (z : ℕ). zeroed_from z (over (a.at + (length name + 7)) new (over (a.at + length name) high (over a.at name s)))) rest;
    }
