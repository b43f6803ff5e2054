use Prim.Native.Nat.{ℕ}
use mathlib.Core.Path.{◌≡◌, sym, ap, ◌∙◌}
use mathlib.Core.List.{List}
use native.Mathlib.Omega.{arith}
use lib.ListN.{length}
use Rattle.words.specs.Parts.{over}
use Rattle.format.specs.Fields.{string_at}
use Rattle.settings.specs.OwnFields.{control_bytes}
use Rattle.settings.specs.OwnFieldsLaws.{control_none, setting_size_is, name_room, float_room, setting_written, over_nothing}
use Rattle.settings.proofs.taken.write_setting.Goals as goal

pub returns-then-place-eq0 : goal.returns-then-place-eq0
returns-then-place-eq0 c =
    let a = c.args in
    let nothing = control_none a.definition.now a.place a.float (omega arith) in (
      let none_at_all : length (control_bytes a.definition.now a.place a.float) ≡ 0 = ap length nothing in omega arith,
      sym (ap (λ (l : List ℕ). over a.at l a.out.now) nothing ∙ over_nothing a.at a.out.now),
    )

pub put_head-requires : goal.put_head-requires
put_head-requires c =
    let told = c.name_at-name.ensures ∙ ap (string_at c.args.definition.now) c.wide.ensures in
    let there = c.if-place-eq0.false in
    let a = c.args in
    let size = setting_size_is a.definition.now a.place a.float a.at a.out.now there c.requires.1 _ told in
    omega (arith, c.requires.1)

pub put_bytes-requires : goal.put_bytes-requires
put_bytes-requires c =
    let told = c.name_at-name.ensures ∙ ap (string_at c.args.definition.now) c.wide.ensures in
    let there = c.if-place-eq0.false in
    name_room _ _ _ _ _ there c.requires.1 _ told c.put_head.ensures

pub put_int-requires : goal.put_int-requires
put_int-requires c =
    let told = c.name_at-name.ensures ∙ ap (string_at c.args.definition.now) c.wide.ensures in
    let there = c.if-place-eq0.false in
    float_room _ _ _ _ _ there c.requires.1 _ told c.put_head.ensures c.put_bytes.ensures

pub returns : goal.returns
returns c =
    let told = c.name_at-name.ensures ∙ ap (string_at c.args.definition.now) c.wide.ensures in
    let there = c.if-place-eq0.false in
    let a = c.args in
    let size = setting_size_is a.definition.now a.place a.float a.at a.out.now there c.requires.1 _ told in
    (omega arith, setting_written _ _ _ _ _ there c.requires.1 _ told c.put_head.ensures c.put_bytes.ensures c.put_int.ensures)
