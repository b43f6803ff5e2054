use Prim.Native.Nat.{ℕ}
use mathlib.Core.Path.{◌≡◌, sym, ap, ◌∙◌}
use native.Mathlib.Omega.{arith}
use Rattle.messages.specs.Write.{row_of}
use Rattle.messageread.specs.Lookup.{meets}
use Rattle.messageread.specs.LookupLaws.{meets_parts, meets_past, meets-zero}
use Rattle.messageread.proofs.rows.meets_row.Goals as goal

pub returns-then-op-lt1 : goal.returns-then-op-lt1
returns-then-op-lt1 c =
    let a = c.args in
    let zero-op : 0 ≡ a.op = omega arith in
    sym (ap (λ (k : ℕ). meets (row_of k) a.address.now a.tags.now) (sym zero-op) ∙ meets-zero a.address.now a.tags.now)

pub returns-then-op-gt-LAST_WITH_ADDRESS : goal.returns-then-op-gt-LAST_WITH_ADDRESS
returns-then-op-gt-LAST_WITH_ADDRESS c =
    let a = c.args in
    sym (meets_past a.address.now a.tags.now a.op c.if-op-gt-LAST_WITH_ADDRESS.true)

pub returns-then-same_address : goal.returns-then-same_address
returns-then-same_address c =
    let a = c.args in
    c.fits.ensures ∙ sym (rw (sym c.same_address.ensures ∙ c.if-same_address.true) at (meets_parts a.address.now a.tags.now a.op (omega arith) (omega arith)))

pub returns-else-same_address : goal.returns-else-same_address
returns-else-same_address c =
    let a = c.args in
    c.if-same_address.false ∙ sym (rw (sym c.same_address.ensures ∙ c.if-same_address.false) at (meets_parts a.address.now a.tags.now a.op (omega arith) (omega arith)))
