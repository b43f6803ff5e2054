use Prim.Native.Nat.{ℕ, ◌<◌}
use mathlib.Core.Path.{sym, ap, ◌∙◌}
use mathlib.Core.List.{List}
use native.Mathlib.Omega.{arith}
use Rattle.values.specs.Controls.{shown_by}
use Rattle.model.specs.Layout.{controls_in, buses_in}
use Rattle.model.specs.Meaning.{cover_of}
use Rattle.controls.specs.Encoded.{front_only}
use Rattle.controls.specs.Ready.{synth_ready, synth_readable}
use Rattle.controls.specs.Cover.{cover_inside}
use Rattle.controls.specs.Asked.{control_in, read_none, read_past, read_there}
use Rattle.controls.proofs.asked.read_key.Goals as goal

pub node_definition-requires : goal.node_definition-requires
node_definition-requires c =
    let a = c.args in
    let p = c.requires in
    (p.0.size, omega (arith, p.0.few, p.1), (synth_ready a.words.now a.arena.now p.0 a.place p.1 p.2).slot)

pub key_cover-requires : goal.key_cover-requires
key_cover-requires c =
    let a = c.args in
    let p = c.requires in
    synth_readable a.words.now a.arena.now p.0 a.place p.1 p.2 c.node_definition.ensures

pub read_control-requires : goal.read_control-requires
read_control-requires c =
    let a = c.args in
    let p = c.requires in
    let row = (synth_ready a.words.now a.arena.now p.0 a.place p.1 p.2).row in
    let covered : 0 < c.in-Some.cover.width = omega (arith, c.if-cover-eq0.false) in
    let inside = rw c.in-Some.is at (cover_inside a.key a.name.now c.node_definition.result.now c.key_cover.result c.key_cover.ensures) in
    (p.0.size, rw c.node_row.ensures row, omega (arith, inside covered))

pub returns : goal.returns
returns c =
    let a = c.args in
    let p = c.requires in
    let said = c.key_cover.ensures ∙ ap (λ (s : List ℕ). cover_of a.key a.name.now (front_only s)) c.node_definition.ensures in
    c.read_control.ensures
    ∙ ap (λ (row : ℕ). shown_by (buses_in a.words.now) (control_in (controls_in a.words.now) row c.in-Some.cover.index)) c.node_row.ensures
    ∙ sym (read_there a.words.now a.arena.now p.0 a.place p.1 p.2 a.key a.name.now c.key_cover.result said c.in-Some.cover c.in-Some.is (omega (arith, c.if-cover-eq0.false)))

pub returns-then-cover-eq0 : goal.returns-then-cover-eq0
returns-then-cover-eq0 c =
    let a = c.args in
    let p = c.requires in
    let said = c.key_cover.ensures ∙ ap (λ (s : List ℕ). cover_of a.key a.name.now (front_only s)) c.node_definition.ensures in
    sym (read_past a.words.now a.arena.now p.0 a.place p.1 p.2 a.key a.name.now c.key_cover.result said c.in-Some.cover c.in-Some.is (omega (arith, c.if-cover-eq0.true)))

pub returns-in_default : goal.returns-in_default
returns-in_default c =
    let a = c.args in
    let p = c.requires in
    let said = c.key_cover.ensures ∙ ap (λ (s : List ℕ). cover_of a.key a.name.now (front_only s)) c.node_definition.ensures in
    sym (read_none a.words.now a.arena.now p.0 a.place p.1 p.2 a.key a.name.now c.key_cover.result said c.in_default.is)
