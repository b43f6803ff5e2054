-- `newsynth::synth::put_synth` meets its contract: the node put in and settled, then the controls.
use native.Mathlib.Omega.{arith}
use Prim.Native.Nat.{ℕ, ◌+◌, ◌*◌}
use mathlib.Core.Path.{refl, sym, ap, ◌∙◌, subst}
use mathlib.Core.List.{List}
use lib.ListN.{get_or}
use Rattle.words.specs.Parts.{region, put, over}
use Rattle.readable.specs.Readable.{Readable}
use Rattle.model.specs.Layout.{controls_place, controls_words, count_in, node_words}
use Rattle.tree.specs.Gaps.{gap_fits}
use Rattle.model.specs.Effects.{initial_words}
use Rattle.controls.specs.Encoded.{front_in}
use Rattle.newsynth.specs.Synth.{next_some, standing, synth_ready, mid_size, row_fits, definition_readable, synth_done}
use Rattle.newsynth.proofs.synth.put_synth.Goals as goal

pub bounds-words-0 : goal.bounds-words-0
bounds-words-0 c = omega (arith, c.requires.ground.known.size, c.requires.ground.clear.there)

pub bounds-words-2 : goal.bounds-words-2
bounds-words-2 c = omega (arith, c.requires.ground.known.size, c.requires.ground.clear.there)

pub slot_bytes-definition-requires : goal.slot_bytes-definition-requires
slot_bytes-definition-requires c =
    let g = c.requires.ground in
    (g.known.size, g.clear.there)

pub slice_bounds-row_for-end : goal.slice_bounds-row_for-end
slice_bounds-row_for-end c = omega (arith, c.requires.ground.known.size, c.requires.ground.clear.there)

pub row_for-row-requires : goal.row_for-row-requires
row_for-row-requires c =
    let a = c.args in
    let p = c.requires in
    standing a.number a.action p.target a.at a.slot p.bytes a.words.now a.arena.now p.ground c.wide-count.result c.wide-count.ensures

pub slice_bounds-gap_by-end : goal.slice_bounds-gap_by-end
slice_bounds-gap_by-end c = omega (arith, c.requires.ground.known.size)

pub gap_by-gap-requires : goal.gap_by-gap-requires
gap_by-gap-requires c = rw c.wide-count.ensures c.requires.ground.clear.room

pub slice_bounds-fill_gap-end : goal.slice_bounds-fill_gap-end
slice_bounds-fill_gap-end c = omega (arith, c.requires.ground.known.size)

pub fill_gap-many-requires : goal.fill_gap-many-requires
fill_gap-many-requires c =
    let a = c.args in
    rw (c.gap_by-gap.ensures, c.wide-count.ensures) (gap_fits (node_words a.words.now) (count_in a.words.now) a.action a.at c.requires.ground.clear.room)

pub next_after-after-requires : goal.next_after-after-requires
next_after-after-requires c =
    let a = c.args in
    let p = c.requires in
    next_some a.number a.action p.target a.at a.slot p.bytes a.words.now a.arena.now p.ground

pub settle-requires : goal.settle-requires
settle-requires c =
    let a = c.args in
    let p = c.requires in
    synth_ready a.number a.action p.target a.at a.slot p.bytes a.words.now a.arena.now p.ground c.wide-count.result c.wide-count.ensures c.row_for-row.result c.row_for-row.ensures (get_or a.words.now 2 0) refl c.number_for-given.result c.number_for-given.ensures c.gap_by-gap.result c.gap_by-gap.ensures c.fill_gap-many.new.nodes c.fill_gap-many.result c.fill_gap-many.ensures

pub slice_bounds-initial_row-end : goal.slice_bounds-initial_row-end
slice_bounds-initial_row-end c =
    let a = c.args in
    let p = c.requires in
    omega (arith, mid_size a.number a.action p.target a.at a.slot p.bytes a.words.now a.arena.now p.ground c.wide-count.result c.wide-count.ensures c.row_for-row.result c.row_for-row.ensures (get_or a.words.now 2 0) refl c.number_for-given.result c.number_for-given.ensures c.gap_by-gap.result c.gap_by-gap.ensures c.fill_gap-many.new.nodes c.fill_gap-many.result c.fill_gap-many.ensures c.next_after-after.result c.next_after-after.ensures c.settle.new.words c.settle.ensures)

pub initial_row-requires : goal.initial_row-requires
initial_row-requires c =
    let a = c.args in
    let p = c.requires in
    let bytes = c.slot_bytes-definition.ensures in (
      row_fits a.number a.action p.target a.at a.slot p.bytes a.words.now a.arena.now p.ground c.wide-count.result c.wide-count.ensures c.row_for-row.result c.row_for-row.ensures (get_or a.words.now 2 0) refl c.number_for-given.result c.number_for-given.ensures c.gap_by-gap.result c.gap_by-gap.ensures c.fill_gap-many.new.nodes c.fill_gap-many.result c.fill_gap-many.ensures c.next_after-after.result c.next_after-after.ensures c.settle.new.words c.settle.ensures,
      subst Readable (sym bytes) (definition_readable a.number a.action p.target a.at a.slot p.bytes a.words.now a.arena.now p.ground (get_or a.words.now (4 + a.slot) 0) refl),
    )

pub returns : goal.returns
returns c =
    λ target bytes g.
    let a = c.args in
    let own = c.slot_bytes-definition.ensures in
    synth_done a.number a.action target a.at a.slot bytes a.words.now a.arena.now g c.wide-count.result c.wide-count.ensures c.row_for-row.result c.row_for-row.ensures (get_or a.words.now 2 0) refl c.number_for-given.result c.number_for-given.ensures c.gap_by-gap.result c.gap_by-gap.ensures c.fill_gap-many.new.nodes c.fill_gap-many.result c.fill_gap-many.ensures c.next_after-after.result c.next_after-after.ensures c.settle.new.words c.settle.ensures
    (get_or a.words.now (4 + a.slot) 0) refl
    (put controls_place controls_words c.initial_row.new.controls c.settle.new.words)
    (ap (λ (l : List ℕ). put controls_place controls_words l c.settle.new.words)
    (c.initial_row.ensures ∙ ap (λ (d : List ℕ). over (64 * c.row_for-row.result) (initial_words (front_in d).values) (region controls_place controls_words c.settle.new.words)) own))
