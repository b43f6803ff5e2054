use Prim.{tt}
use Prim.Native.Nat.{ℕ, ◌*◌, ◌<◌}
use mathlib.Core.Path.{ap, ap₂}
use lib.ListN.{length}
use mathlib.Core.Bool.{true, false}
use mathlib.Core.Path.{◌≡◌, refl, sym, ◌∙◌}
use native.Mathlib.Omega.{arith}
use lib.ListN.{drop}
use Rattle.std.specs.Prelude.{None}
use Rattle.model.specs.Layout.{controls_place, controls_words, controls_in, record_in}
use Rattle.model.specs.Formed.{mappings_formed}
use Rattle.controls.specs.Formed.{node_formed, formed_turn, formed_end, synth_here}
use Rattle.words.specs.PartsLaws.{region-length}
use Rattle.controls.specs.Noted.{noted_none, noted_more}
use Rattle.controls.specs.Cover.{controls_on}
use Rattle.controls.proofs.table.controls_formed.Goals as goal
use Rattle.controls.proofs.table.controls_formed.Goals.{then-not-node_is_group+else-not-row_formed, else-not-node_is_group}

pub wide-count-requires : goal.wide-count-requires
wide-count-requires c = tt

pub loop-i-init : goal.loop-i-init
loop-i-init c = (refl, noted_none _)

pub node_is_group-requires : goal.node_is_group-requires
node_is_group-requires c = (c.requires.size, omega (arith, c.requires.few))

pub node_slot-slot-requires : goal.node_slot-slot-requires
node_slot-slot-requires c = (c.requires.size, omega (arith, c.requires.few))

pub offset_bounds-known-slot : goal.offset_bounds-known-slot
offset_bounds-known-slot c =
    let ws = c.args.words.now in
    let arena = c.args.arena.now in
    let single = sym c.node_is_group.ensures ∙ c.if-not-node_is_group.true in
    let h = synth_here ws arena c.requires c.loop-i.i (omega arith) single in
    omega (arith, h.bounds.slot single, c.node_slot-slot.ensures)

pub bounds-known-slot : goal.bounds-known-slot
bounds-known-slot c =
    let ws = c.args.words.now in
    let arena = c.args.arena.now in
    let single = sym c.node_is_group.ensures ∙ c.if-not-node_is_group.true in
    let h = synth_here ws arena c.requires c.loop-i.i (omega arith) single in
    omega (arith, h.bounds.slot single, c.node_slot-slot.ensures)

pub slot_controls-many-requires : goal.slot_controls-many-requires
slot_controls-many-requires c =
    let ws = c.args.words.now in
    let arena = c.args.arena.now in
    let single = sym c.node_is_group.ensures ∙ c.if-not-node_is_group.true in
    let h = synth_here ws arena c.requires c.loop-i.i (omega arith) single in
    let slot = c.node_slot-slot.result in
    let here : slot ≡ (record_in ws c.loop-i.i).slot = c.node_slot-slot.ensures in
    let low : slot < 32 = rw here (h.bounds.slot single) in
    (c.requires.size, low, rw here (h.bounds.readable single), c.loop-i.invariant.1.same None slot low)

pub offset_bounds-known-slot-then-not-node_is_group : goal.offset_bounds-known-slot-then-not-node_is_group
offset_bounds-known-slot-then-not-node_is_group c =
    let ws = c.args.words.now in
    let arena = c.args.arena.now in
    let single = sym c.node_is_group.ensures ∙ c.if-not-node_is_group.true in
    let h = synth_here ws arena c.requires c.loop-i.i (omega arith) single in
    omega (arith, h.bounds.slot single, c.node_slot-slot.ensures)

pub bounds-known-slot-then-not-node_is_group : goal.bounds-known-slot-then-not-node_is_group
bounds-known-slot-then-not-node_is_group c =
    let ws = c.args.words.now in
    let arena = c.args.arena.now in
    let single = sym c.node_is_group.ensures ∙ c.if-not-node_is_group.true in
    let h = synth_here ws arena c.requires c.loop-i.i (omega arith) single in
    omega (arith, h.bounds.slot single, c.node_slot-slot.ensures)

pub slice_bounds-row_formed-end : goal.slice_bounds-row_formed-end
slice_bounds-row_formed-end c = omega (arith, c.requires.size)

pub node_row-requires : goal.node_row-requires
node_row-requires c = (c.requires.size, omega (arith, c.requires.few))

pub row_formed-requires : goal.row_formed-requires
row_formed-requires c =
    let ws = c.args.words.now in
    let arena = c.args.arena.now in
    let single = sym c.node_is_group.ensures ∙ c.if-not-node_is_group.true in
    let h = synth_here ws arena c.requires c.loop-i.i (omega arith) single in
    let low = h.bounds.row single in
    let row = c.node_row.ensures in
    let few = h.few in
    let many : c.slot_controls-many.result ≡ controls_on ws arena (record_in ws c.loop-i.i).slot = c.slot_controls-many.ensures ∙ ap (controls_on ws arena) c.node_slot-slot.ensures in
    let long : length (controls_in ws) ≡ controls_words = region-length controls_place controls_words ws (omega (arith, c.requires.size)) in
    omega arith

pub returns-then-not-row_formed : goal.returns-then-not-row_formed
returns-then-not-row_formed c =
    let ws = c.args.words.now in
    let arena = c.args.arena.now in
    let single = sym c.node_is_group.ensures ∙ c.if-not-node_is_group.true in
    let h = synth_here ws arena c.requires c.loop-i.i (omega arith) single in
    let turn = formed_turn ws arena c.requires c.loop-i.i (omega arith) in
    let many = c.slot_controls-many.ensures ∙ ap (controls_on ws arena) c.node_slot-slot.ensures in
    let no_more : node_formed ws arena c.loop-i.i ≡ false =
    h.test
    ∙ sym (ap₂ (λ (n row : ℕ). mappings_formed n (drop (64 * row) (controls_in ws))) many c.node_row.ensures)
    ∙ sym c.row_formed.ensures
    ∙ c.if-not-row_formed.true in
    sym (rw no_more at turn) ∙ c.loop-i.invariant.0

pub loop-i-preserved : goal.loop-i-preserved
loop-i-preserved c =
    let ws = c.args.words.now in
    let arena = c.args.arena.now in
    let turn = formed_turn ws arena c.requires c.loop-i.i (omega arith) in
    elim c.if-not-node_is_group.branch [
      | then-not-node_is_group+else-not-row_formed b ↦ let single = sym c.node_is_group.ensures ∙ b.if-not-node_is_group.true in
          let h = synth_here ws arena c.requires c.loop-i.i (omega arith) single in
          let here : b.node_slot-slot.result ≡ (record_in ws c.loop-i.i).slot = b.node_slot-slot.ensures in
          let more : node_formed ws arena c.loop-i.i ≡ true =
          h.test
          ∙ sym (ap₂ (λ (n row : ℕ). mappings_formed n (drop (64 * row) (controls_in ws))) (b.slot_controls-many.ensures ∙ ap (controls_on ws arena) here) b.node_row.ensures)
          ∙ sym b.row_formed.ensures
          ∙ b.if-not-row_formed.false in
          let noted = noted_more _ c.loop-i.known c.loop-i.invariant.1 b.node_slot-slot.result b.slot_controls-many.result (rw here (h.bounds.slot single)) b.slot_controls-many.ensures in
          (sym (rw more at turn) ∙ c.loop-i.invariant.0, rw b.known-is noted)
      | else-not-node_is_group b ↦ let whole = sym c.node_is_group.ensures ∙ b.if-not-node_is_group.false in
          (sym (rw whole at turn) ∙ c.loop-i.invariant.0, rw b.known-is c.loop-i.invariant.1)
    ]

pub returns : goal.returns
returns c =
    sym (formed_end c.args.words.now c.args.arena.now c.requires c.loop-i.i (omega arith)) ∙ c.loop-i.invariant.0
