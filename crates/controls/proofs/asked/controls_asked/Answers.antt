use Prim.Native.Nat.{ℕ}
use mathlib.Core.Bool.{false}
use mathlib.Core.Path.{◌≡◌, sym, ap, ◌∙◌}
use mathlib.Core.List.{List}
use native.Mathlib.Omega.{arith}
use Rattle.nodes.specs.Place.{is_group}
use Rattle.model.specs.Meaning.{cover_of}
use Rattle.controls.specs.Encoded.{front_only}
use Rattle.controls.specs.Cover.{asked_in}
use Rattle.model.specs.Layout.{record_in}
use Rattle.controls.specs.Ready.{synth_ready, synth_readable}
use Rattle.controls.specs.Asked.{synth-asked}
use Rattle.controls.proofs.asked.controls_asked.Goals as goal

pub node_definition-requires : goal.node_definition-requires
node_definition-requires c =
    let a = c.args in
    let p = c.requires in
    let single : is_group (record_in a.words.now a.place) ≡ false = sym c.node_is_group.ensures ∙ c.if-node_is_group.false in
    (p.0.size, omega (arith, p.0.few, p.1), (synth_ready a.words.now a.arena.now p.0 a.place p.1 single).slot)

pub asked_of-requires : goal.asked_of-requires
asked_of-requires c =
    let a = c.args in
    let p = c.requires in
    let single : is_group (record_in a.words.now a.place) ≡ false = sym c.node_is_group.ensures ∙ c.if-node_is_group.false in
    synth_readable a.words.now a.arena.now p.0 a.place p.1 single c.node_definition.ensures

pub returns : goal.returns
returns c =
    let a = c.args in
    let p = c.requires in
    let ws = a.words.now in
    let single : is_group (record_in ws a.place) ≡ false = sym c.node_is_group.ensures ∙ c.if-node_is_group.false in
    c.asked_of.ensures
    ∙ ap (λ (s : List ℕ). asked_in (cover_of a.key a.name.now (front_only s)) a.count (front_only s)) c.node_definition.ensures
    ∙ sym (synth-asked ws a.arena.now p.0 a.place p.1 single a.key a.name.now a.count)
