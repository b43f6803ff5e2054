use Prim.Native.Nat.{◌+◌, ◌<◌}
use mathlib.Core.Path.{refl, sym, ap}
use mathlib.Core.List.{[], ◌∷◌, append-nil}
use native.Mathlib.Omega.{arith}
use Rattle.osc.specs.Message.{Argument, int}
use Rattle.queries.specs.Held.{bounds}
use Rattle.treequery.specs.Pieces.{piece_argument}
use Rattle.treequery.specs.Writing.{left_all, left_some, left_less, left_none}
use Rattle.treequery.specs.Controls.{Controls, controls_short, controls_all, controls_end, control_few, control_row, label_there, value_of, control_turn, value_small}
use Rattle.treequery.specs.SynthRow.{controls_left}
use Rattle.treequery.proofs.write.put_controls.Goals as goal

pub node_definition-definition-requires : goal.node_definition-definition-requires
node_definition-definition-requires c =
    let bound = bounds c.args.words.now c.args.arena.now c.args.place c.requires.0.at in
    (bound.size, bound.place, bound.slot c.requires.0.single)

pub synth_at-synth-requires : goal.synth_at-synth-requires
synth_at-synth-requires c = c.requires.0

pub put_argument-next-requires : goal.put_argument-next-requires
put_argument-next-requires c =
    let k : Controls c.args.words.now c.args.arena.now c.args.shapes.now c.args.place c.node_definition-definition.result.now c.synth_at-synth.result.row c.synth_at-synth.result.first c.synth_at-synth.result.many = record { of = c.requires.0; bytes = c.node_definition-definition.ensures; row_is = c.synth_at-synth.ensures.row; first_is = c.synth_at-synth.ensures.first; many_is = c.synth_at-synth.ensures.many } in
    record { short = controls_short k; small = refl; room = left_some (int c.synth_at-synth.result.many ∷ []) (controls_left c.args.words.now c.args.arena.now c.args.place 0) (left_all c.requires.1) (controls_all k) }

pub loop-j-init : goal.loop-j-init
loop-j-init c =
    let k : Controls c.args.words.now c.args.arena.now c.args.shapes.now c.args.place c.node_definition-definition.result.now c.synth_at-synth.result.row c.synth_at-synth.result.first c.synth_at-synth.result.many = record { of = c.requires.0; bytes = c.node_definition-definition.ensures; row_is = c.synth_at-synth.ensures.row; first_is = c.synth_at-synth.ensures.first; many_is = c.synth_at-synth.ensures.many } in
    let first = left_less (int c.synth_at-synth.result.many ∷ []) (controls_left c.args.words.now c.args.arena.now c.args.place 0) (left_all c.requires.1) (controls_all k) c.put_argument-next.ensures in
    (k, left_all first.room)

pub label_at-requires : goal.label_at-requires
label_at-requires c =
    let k = c.loop-j.invariant.0 in
    let j = c.loop-j.j in
    label_there k j (omega arith)

pub put_argument-next-requires-in-loop-j : goal.put_argument-next-requires-in-loop-j
put_argument-next-requires-in-loop-j c =
    let k = c.loop-j.invariant.0 in
    let j = c.loop-j.j in
    let less : j < c.synth_at-synth.result.many = omega arith in
    let ws = c.args.words.now in
    let d = c.node_definition-definition.result.now in
    let row = c.synth_at-synth.result.row in
    let rest = controls_left ws c.args.arena.now c.args.place (j + 1) in
    record { short = controls_short k; small = c.label_at.ensures.1; room = left_some (piece_argument d c.label_at.result ∷ []) (value_of ws row j ∷ rest) c.loop-j.invariant.1 (control_turn k j less c.label_at.result c.label_at.ensures.0) }

pub value_at-requires : goal.value_at-requires
value_at-requires c =
    let k = c.loop-j.invariant.0 in
    let j = c.loop-j.j in
    (k.of.at.state.size, control_row k j (omega arith), control_few k j (omega arith))

pub put_argument-next-requires-in-loop-j-2 : goal.put_argument-next-requires-in-loop-j-2
put_argument-next-requires-in-loop-j-2 c =
    let k = c.loop-j.invariant.0 in
    let j = c.loop-j.j in
    let less : j < c.synth_at-synth.result.many = omega arith in
    let ws = c.args.words.now in
    let d = c.node_definition-definition.result.now in
    let row = c.synth_at-synth.result.row in
    let rest = controls_left ws c.args.arena.now c.args.place (j + 1) in
    record { short = controls_short k; small = value_small k j less c.value_at.result c.value_at.ensures; room = left_some (piece_argument d c.value_at.result ∷ []) rest (left_less (piece_argument d c.label_at.result ∷ []) (value_of ws row j ∷ rest) c.loop-j.invariant.1 (control_turn k j less c.label_at.result c.label_at.ensures.0) c.put_argument-next-in-loop-j.ensures) (ap (λ (x : Argument). x ∷ rest) (sym (c.value_at.ensures.is d))) }

pub loop-j-preserved : goal.loop-j-preserved
loop-j-preserved c =
    let k = c.loop-j.invariant.0 in
    let j = c.loop-j.j in
    let less : j < c.synth_at-synth.result.many = omega arith in
    let ws = c.args.words.now in
    let d = c.node_definition-definition.result.now in
    let row = c.synth_at-synth.result.row in
    let rest = controls_left ws c.args.arena.now c.args.place (j + 1) in
    (k, left_less (piece_argument d c.value_at.result ∷ []) rest (left_less (piece_argument d c.label_at.result ∷ []) (value_of ws row j ∷ rest) c.loop-j.invariant.1 (control_turn k j less c.label_at.result c.label_at.ensures.0) c.put_argument-next-in-loop-j.ensures) (ap (λ (x : Argument). x ∷ rest) (sym (c.value_at.ensures.is d))) c.put_argument-next-in-loop-j-2.ensures)

pub returns : goal.returns
returns c =
    let k = c.loop-j.invariant.0 in
    let all = (controls_left c.args.words.now c.args.arena.now c.args.place 0) in
    let first = left_less (int c.synth_at-synth.result.many ∷ []) all (left_all c.requires.1) (controls_all k) c.put_argument-next.ensures in
    let done = left_none c.loop-j.invariant.1 (controls_end k c.loop-j.j (omega arith)) in
    left_none (left_less all [] first (sym (append-nil all)) done) refl
