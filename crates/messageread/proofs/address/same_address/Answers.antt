use Prim.Native.Nat.{ℕ, ◌-◌}
use mathlib.Core.Path.{sym, ap, ◌∙◌}
use mathlib.Core.List.{List}
use native.Mathlib.Omega.{arith}
use lib.ListN.{length}
use Rattle.format.specs.Fields.{word}
use Rattle.fields.specs.SameLaws.{same_lengths}
use Rattle.messages.specs.Rows.{address_of}
use Rattle.messages.specs.TableRows.{long_address, short_address, address_bytes}
use Rattle.messageread.specs.AddressLaws.{differ, same_words, same_or_not}
use Rattle.messageread.proofs.address.same_address.Goals as goal

pub returns-then-size-address_length : goal.returns-then-size-address_length
returns-then-size-address_length c =
    let a = c.args in
    sym (same_lengths a.address.now (address_of a.op) (λ e. c.if-size-address_length.true (e ∙ sym c.address_length.ensures)))

pub word_at-requires : goal.word_at-requires
word_at-requires c =
    let a = c.args in
    let p = c.requires in
    let size = c.address_length.ensures in
    let long = long_address a.op p.some p.few in
    omega arith

pub returns-then-word_at-address_start : goal.returns-then-word_at-address_start
returns-then-word_at-address_start c =
    let a = c.args in
    sym (differ a.address.now (address_of a.op) (λ (l : List ℕ). word l 0) (λ e. c.if-word_at-address_start.true (c.word_at.ensures ∙ e ∙ sym c.address_start.ensures)))

pub overflow_sub-size : goal.overflow_sub-size
overflow_sub-size c =
    let a = c.args in
    let p = c.requires in
    let size = c.address_length.ensures in
    let long = long_address a.op p.some p.few in
    omega arith

pub word_at-requires-2 : goal.word_at-requires-2
word_at-requires-2 c =
    let a = c.args in
    let p = c.requires in
    let size = c.address_length.ensures in
    let long = long_address a.op p.some p.few in
    omega arith

pub returns-then-word_at-address_end : goal.returns-then-word_at-address_end
returns-then-word_at-address_end c =
    let a = c.args in
    sym (differ a.address.now (address_of a.op) (λ (l : List ℕ). word l (length l - 4)) (λ e. c.if-word_at-address_end.true (c.word_at-2.ensures ∙ e ∙ sym c.address_end.ensures)))

pub returns-then-size-le8 : goal.returns-then-size-le8
returns-then-size-le8 c =
    let a = c.args in
    let p = c.requires in
    let b = address_of a.op in
    let size = c.if-size-address_length.false ∙ c.address_length.ensures in
    let front = c.if-word_at-address_start.false ∙ c.address_start.ensures in
    let back = c.if-word_at-address_end.false ∙ c.address_end.ensures ∙ ap (λ (n : ℕ). word (address_of a.op) (n - 4)) (sym size) in
    sym (same_words a.address.now b (λ i. (c.type_inv.address i).fits) (address_bytes a.op) c.word_at.result c.word_at-2.result size (long_address a.op p.some p.few) c.word_at.ensures front c.word_at-2.ensures back (λ i l h. absurd (omega arith)))

pub returns : goal.returns
returns c =
    let a = c.args in
    let p = c.requires in
    let b = address_of a.op in
    let size = c.if-size-address_length.false ∙ c.address_length.ensures in
    let front = c.if-word_at-address_start.false ∙ c.address_start.ensures in
    let back = c.if-word_at-address_end.false ∙ c.address_end.ensures ∙ ap (λ (n : ℕ). word (address_of a.op) (n - 4)) (sym size) in
    same_or_not a.address.now b (λ i. (c.type_inv.address i).fits) (address_bytes a.op) c.word_at.result c.word_at-2.result c.word_at-3.result c.address_middle.result size (long_address a.op p.some p.few) (short_address a.op) c.word_at.ensures front c.word_at-2.ensures back c.word_at-3.ensures c.address_middle.ensures
