use Prim.Native.Nat.{ℕ, ◌+◌}
use mathlib.Core.Path.{◌≡◌, sym, ap, ◌∙◌}
use mathlib.Core.List.{List}
use native.Mathlib.Omega.{arith}
use lib.ListN.{length}
use Rattle.format.specs.Fields.{string_at}
use Rattle.tagged.specs.Fields.{head_size}
use Rattle.store.specs.Store.{number_size}
use Rattle.settings.specs.OwnFieldsLaws.{control_none, control_length}
use Rattle.settings.proofs.taken.setting_size.Goals as goal

pub returns-then-place-eq0 : goal.returns-then-place-eq0
returns-then-place-eq0 c =
    λ float.
    let a = c.args in
    sym (ap length (control_none a.definition.now a.place float (omega arith)))

pub returns : goal.returns
returns c =
    λ float.
    let a = c.args in
    let told : c.name_at-name.result.now ≡ string_at a.definition.now a.place = c.name_at-name.ensures ∙ ap (string_at a.definition.now) c.wide.ensures in
    sym (control_length a.definition.now a.place float (λ z. c.if-place-eq0.false z)
    ∙ ap (λ (n : List ℕ). head_size + length n + number_size) (sym told))
