use Prim.Native.Nat.{ℕ, ◌-◌, ◌<◌}
use mathlib.Core.Path.{◌≡◌, refl, sym, ap, ◌∙◌}
use mathlib.Core.List.{List}
use native.Mathlib.Omega.{arith}
use lib.ListN.{drop, get_or}
use Rattle.std.specs.Prelude.{None}
use Rattle.model.specs.Layout.{count_in, nodes_in, controls_in, put_controls, record_in}
use Rattle.model.specs.Engine.{decode}
use Rattle.controls.specs.Change.{change_of}
use Rattle.model.specs.Meaning.{cover_of}
use Rattle.controls.specs.Encoded.{front_only}
use Rattle.controls.specs.Synth.{same_controls}
use Rattle.controls.specs.All.{synth_lent, cover-change, no_change, turned, all_none}
use Rattle.slots.specs.Slots.{slot_bytes}
use Rattle.controls.specs.Noted.{noted_none, noted_more}
use Rattle.controls.specs.Cover.{cover_on, cover_inside, covered-same}
use Rattle.controls.proofs.table.change_all.Goals as goal
use Rattle.controls.proofs.table.change_all.Goals.{then-not-node_is_group, else-not-node_is_group}

pub loop-i-init : goal.loop-i-init
loop-i-init c =
    let a = c.args in
    (c.requires.0.size, sym (same_controls a.words.now), refl, noted_none _)

pub node_is_group-requires : goal.node_is_group-requires
node_is_group-requires c =
    (c.loop-i.invariant.0, omega (arith, c.requires.1, c.requires.0.few))

pub node_slot-slot-requires : goal.node_slot-slot-requires
node_slot-slot-requires c =
    (c.loop-i.invariant.0, omega (arith, c.requires.1, c.requires.0.few))

pub offset_bounds-covers-slot : goal.offset_bounds-covers-slot
offset_bounds-covers-slot c =
    let a = c.args in
    let single = sym c.node_is_group.ensures ∙ c.if-not-node_is_group.true in
    let w = synth_lent a.words.now a.arena.now c.loop-i.words c.loop-i.i c.requires.0 c.loop-i.invariant.0 c.loop-i.invariant.1 (omega (arith, c.requires.1)) single in
    omega (arith, w.slot, c.node_slot-slot.ensures)

pub bounds-covers-slot : goal.bounds-covers-slot
bounds-covers-slot c =
    let a = c.args in
    let single = sym c.node_is_group.ensures ∙ c.if-not-node_is_group.true in
    let w = synth_lent a.words.now a.arena.now c.loop-i.words c.loop-i.i c.requires.0 c.loop-i.invariant.0 c.loop-i.invariant.1 (omega (arith, c.requires.1)) single in
    omega (arith, w.slot, c.node_slot-slot.ensures)

pub slot_cover-cover-requires : goal.slot_cover-cover-requires
slot_cover-cover-requires c =
    let a = c.args in
    let single = sym c.node_is_group.ensures ∙ c.if-not-node_is_group.true in
    let w = synth_lent a.words.now a.arena.now c.loop-i.words c.loop-i.i c.requires.0 c.loop-i.invariant.0 c.loop-i.invariant.1 (omega (arith, c.requires.1)) single in
    let slot = c.node_slot-slot.result in
    let here : slot ≡ (record_in c.loop-i.words c.loop-i.i).slot = c.node_slot-slot.ensures in (
      c.loop-i.invariant.0,
      rw here w.slot,
      rw here w.readable,
      covered-same (get_or c.loop-i.covers slot None) (cover_on a.key a.name.now a.words.now a.arena.now slot) (cover_on a.key a.name.now c.loop-i.words a.arena.now slot)
          (ap (λ (d : List ℕ). cover_of a.key a.name.now (front_only d)) (ap (slot_bytes a.words.now a.arena.now) here ∙ sym w.kept ∙ ap (slot_bytes c.loop-i.words a.arena.now) (sym here)))
          (c.loop-i.invariant.3.same None slot (rw here w.slot)),
    )

pub offset_bounds-covers-slot-then-not-node_is_group : goal.offset_bounds-covers-slot-then-not-node_is_group
offset_bounds-covers-slot-then-not-node_is_group c =
    let a = c.args in
    let single = sym c.node_is_group.ensures ∙ c.if-not-node_is_group.true in
    let w = synth_lent a.words.now a.arena.now c.loop-i.words c.loop-i.i c.requires.0 c.loop-i.invariant.0 c.loop-i.invariant.1 (omega (arith, c.requires.1)) single in
    omega (arith, w.slot, c.node_slot-slot.ensures)

pub bounds-covers-slot-then-not-node_is_group : goal.bounds-covers-slot-then-not-node_is_group
bounds-covers-slot-then-not-node_is_group c =
    let a = c.args in
    let single = sym c.node_is_group.ensures ∙ c.if-not-node_is_group.true in
    let w = synth_lent a.words.now a.arena.now c.loop-i.words c.loop-i.i c.requires.0 c.loop-i.invariant.0 c.loop-i.invariant.1 (omega (arith, c.requires.1)) single in
    omega (arith, w.slot, c.node_slot-slot.ensures)

pub change_node-requires : goal.change_node-requires
change_node-requires c =
    let a = c.args in
    let single = sym c.node_is_group.ensures ∙ c.if-not-node_is_group.true in
    let w = synth_lent a.words.now a.arena.now c.loop-i.words c.loop-i.i c.requires.0 c.loop-i.invariant.0 c.loop-i.invariant.1 (omega (arith, c.requires.1)) single in
    (c.loop-i.invariant.0, w.place, w.row, cover_inside a.key a.name.now (slot_bytes c.loop-i.words a.arena.now c.node_slot-slot.result) c.slot_cover-cover.result c.slot_cover-cover.ensures)

pub loop-i-preserved : goal.loop-i-preserved
loop-i-preserved c =
    let a = c.args in
    let f = change_of a.change in
    let live : c.loop-i.i < count_in a.words.now = omega (arith, c.requires.1) in
    elim c.if-not-node_is_group.branch [
      | then-not-node_is_group b ↦ let single = sym c.node_is_group.ensures ∙ b.if-not-node_is_group.true in
          let e = synth_lent a.words.now a.arena.now c.loop-i.words c.loop-i.i c.requires.0 c.loop-i.invariant.0 c.loop-i.invariant.1 live single in
          let slot = b.node_slot-slot.result in
          let here : slot ≡ (record_in c.loop-i.words c.loop-i.i).slot = b.node_slot-slot.ensures in
          let cover = b.slot_cover-cover.ensures ∙ ap (cover_on a.key a.name.now c.loop-i.words a.arena.now) here in
          let fact = b.change_node.ensures ∙ ap (λ (cs : List ℕ). put_controls cs c.loop-i.words) (cover-change f a.key a.name.now a.count c.loop-i.words a.arena.now c.loop-i.i single b.slot_cover-cover.result cover) in
          let t =
          turned f a.key a.name.now a.count a.words.now a.arena.now a.to c.loop-i.i c.loop-i.words b.change_node.new.words
          c.requires.0 (omega arith) c.requires.1 c.loop-i.invariant.0 c.loop-i.invariant.1 b.change_node.auto.words fact in
          let noted = cover ∙ ap (λ (d : List ℕ). cover_of a.key a.name.now (front_only d)) (e.kept ∙ ap (slot_bytes a.words.now a.arena.now) (sym here)) in
          let more = noted_more _ c.loop-i.covers c.loop-i.invariant.3 slot b.slot_cover-cover.result (rw here e.slot) noted in
          (rw b.words-is t.size, rw b.words-is t.rest, rw b.words-is (t.left ∙ c.loop-i.invariant.2), rw b.covers-is more)
      | else-not-node_is_group b ↦ let whole = sym c.node_is_group.ensures ∙ b.if-not-node_is_group.false in
          let t =
          turned f a.key a.name.now a.count a.words.now a.arena.now a.to c.loop-i.i c.loop-i.words c.loop-i.words
          c.requires.0 (omega arith) c.requires.1 c.loop-i.invariant.0 c.loop-i.invariant.1 refl (no_change f a.key a.name.now a.count c.loop-i.words a.arena.now c.loop-i.i whole) in
          (rw b.words-is t.size, rw b.words-is t.rest, rw b.words-is (t.left ∙ c.loop-i.invariant.2), rw b.covers-is c.loop-i.invariant.3)
    ]

pub returns : goal.returns
returns c =
    let a = c.args in
    let done =
    all_none (change_of a.change) a.key a.name.now a.count (decode a.words.now a.arena.now).slots a.words.now
    (a.to - c.loop-i.i) (drop c.loop-i.i (nodes_in a.words.now)) (controls_in c.loop-i.words) (omega arith) in
    c.loop-i.invariant.1 ∙ ap (λ (cs : List ℕ). put_controls cs a.words.now) (sym done ∙ c.loop-i.invariant.2)
