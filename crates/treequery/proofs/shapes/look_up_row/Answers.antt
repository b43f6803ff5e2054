use Prim.Native.Nat.{ℕ, ◌*◌}
use mathlib.Core.Path.{sym, ap, ◌∙◌, subst}
use mathlib.Core.List.{List}
use native.Mathlib.Omega.{arith}
use native.Mathlib.Nat.{pos_of_ne-zero}
use lib.ListN.{get_or}
use Rattle.slots.specs.Slots.{slot_bytes}
use Rattle.model.specs.Layout.{record_in}
use Rattle.queries.specs.Held.{bounds}
use Rattle.treequery.specs.Shapes.{Filled}
use Rattle.treequery.specs.LookUp.{looked_group, looked_before, looked_now}
use Rattle.treequery.specs.SynthRow.{synth_readable}
use Rattle.treequery.proofs.shapes.look_up_row.Goals as goal

pub returns-then-node_is_group : goal.returns-then-node_is_group
returns-then-node_is_group c =
    looked_group c.args.words.now c.args.arena.now c.args.place c.args.shapes.now c.requires.1 (sym c.node_is_group.ensures ∙ c.if-node_is_group.true)

pub node_slot-slot-requires : goal.node_slot-slot-requires
node_slot-slot-requires c =
    let bound = bounds c.args.words.now c.args.arena.now c.args.place c.requires.0 in
    (bound.size, bound.place)

pub overflow_mul-slot : goal.overflow_mul-slot
overflow_mul-slot c =
    omega (arith, c.node_slot-slot.ensures, (bounds c.args.words.now c.args.arena.now c.args.place c.requires.0).slot (sym c.node_is_group.ensures ∙ c.if-node_is_group.false))

pub offset_bounds-shapes-slot : goal.offset_bounds-shapes-slot
offset_bounds-shapes-slot c =
    omega (arith, c.node_slot-slot.ensures, (bounds c.args.words.now c.args.arena.now c.args.place c.requires.0).slot (sym c.node_is_group.ensures ∙ c.if-node_is_group.false))

pub bounds-shapes-slot : goal.bounds-shapes-slot
bounds-shapes-slot c =
    omega (arith, c.node_slot-slot.ensures, (bounds c.args.words.now c.args.arena.now c.args.place c.requires.0).slot (sym c.node_is_group.ensures ∙ c.if-node_is_group.false))

pub returns-then-shapes-slot-ne0 : goal.returns-then-shapes-slot-ne0
returns-then-shapes-slot-ne0 c =
    looked_before c.args.words.now c.args.arena.now c.args.place c.args.shapes.now c.requires.1
    (pos_of_ne-zero (λ e. c.if-shapes-slot-ne0.true (ap (λ (k : ℕ). get_or c.args.shapes.now (33 * k) 0) c.node_slot-slot.ensures ∙ e)))

pub node_definition-requires : goal.node_definition-requires
node_definition-requires c =
    let bound = bounds c.args.words.now c.args.arena.now c.args.place c.requires.0 in
    (bound.size, bound.place, bound.slot (sym c.node_is_group.ensures ∙ c.if-node_is_group.false))

pub look_up-requires : goal.look_up-requires
look_up-requires c =
    let ws = c.args.words.now in
    let bs = c.args.arena.now in
    let one = sym c.node_is_group.ensures ∙ c.if-node_is_group.false in
    (omega (arith, c.node_slot-slot.ensures, (bounds ws bs c.args.place c.requires.0).slot one), c.requires.1.size, rw c.node_definition.ensures (synth_readable ws bs c.args.place c.requires.0 one))

pub returns : goal.returns
returns c =
    let ws = c.args.words.now in
    let bs = c.args.arena.now in
    let one = sym c.node_is_group.ensures ∙ c.if-node_is_group.false in
    looked_now ws bs c.args.place c.args.shapes.now c.requires.1 c.look_up.new.shapes ((bounds ws bs c.args.place c.requires.0).slot one)
    (subst (λ (k : ℕ). Filled (slot_bytes ws bs (record_in ws c.args.place).slot) k c.args.shapes.now c.look_up.new.shapes) c.node_slot-slot.ensures
    (subst (λ (d : List ℕ). Filled d c.node_slot-slot.result c.args.shapes.now c.look_up.new.shapes) c.node_definition.ensures c.look_up.ensures))
