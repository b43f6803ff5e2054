use Prim.Native.Nat.{◌+◌, ◌*◌}
use mathlib.Core.Bool.{true}
use mathlib.Core.Path.{refl, sym, ap, ◌∙◌}
use mathlib.Core.List.{[], ◌∷◌, append-nil}
use lib.ListN.{get_or}
use Rattle.format.specs.Fields.{string_at}
use Rattle.nodes.specs.Structure.{no_node}
use Rattle.osc.specs.Message.{int, text}
use Rattle.model.specs.Layout.{nodes_place, record_in}
use Rattle.slots.specs.Slots.{slot_bytes}
use Rattle.queries.specs.Held.{bounds}
use Rattle.nodes.specs.Table.{width}
use Rattle.treequery.specs.Pieces.{piece_argument}
use Rattle.treequery.specs.Writing.{left_all, left_some, left_less, left_none}
use Rattle.treequery.specs.SynthRow.{controls_shown, synth_short, title_within, synth_pair, synth_turn, synth_hidden}
use Rattle.treequery.specs.Rows.{group_turn, number_fact}
use Rattle.treequery.proofs.write.put_row.Goals as goal

pub put_pair-requires : goal.put_pair-requires
put_pair-requires c =
    let ws = c.args.words.now in
    let bs = c.args.arena.now in
    let i = c.args.place in
    rw (sym (group_turn c.args.shown ws bs c.args.end i (get_or ws (nodes_place + width * i) 0) c.args.children (sym c.node_is_group.ensures ∙ c.if-node_is_group.true) (number_fact ws bs i c.requires.0.at) c.requires.1)) c.requires.2

pub returns-then-node_is_group : goal.returns-then-node_is_group
returns-then-node_is_group c =
    let ws = c.args.words.now in
    let bs = c.args.arena.now in
    let i = c.args.place in
    rw (group_turn c.args.shown ws bs c.args.end i (get_or ws (nodes_place + width * i) 0) c.args.children (sym c.node_is_group.ensures ∙ c.if-node_is_group.true) (number_fact ws bs i c.requires.0.at) c.requires.1) c.put_pair.ensures

pub put_pair-next-requires : goal.put_pair-next-requires
put_pair-next-requires c =
    let ws = c.args.words.now in
    let bs = c.args.arena.now in
    let i = c.args.place in
    let at = c.requires.0.at in
    let one = sym c.node_is_group.ensures ∙ c.if-node_is_group.false in
    let n = get_or ws (nodes_place + width * i) 0 in
    left_some (int n ∷ (int no_node ∷ [])) (text (string_at (slot_bytes ws bs (record_in ws i).slot) 0) ∷ controls_shown ws bs i c.args.shown) (left_all c.requires.2) (synth_pair ws bs i at one c.args.shown c.args.end n (number_fact ws bs i at))

pub node_definition-definition-requires : goal.node_definition-definition-requires
node_definition-definition-requires c =
    let ws = c.args.words.now in
    let bs = c.args.arena.now in
    let i = c.args.place in
    let at = c.requires.0.at in
    let one = sym c.node_is_group.ensures ∙ c.if-node_is_group.false in
    let bound = bounds ws bs i at in
    (bound.size, bound.place, bound.slot one)

pub string_at-requires : goal.string_at-requires
string_at-requires c =
    let ws = c.args.words.now in
    let bs = c.args.arena.now in
    let i = c.args.place in
    let at = c.requires.0.at in
    let one = sym c.node_is_group.ensures ∙ c.if-node_is_group.false in
    rw c.node_definition-definition.ensures (title_within ws bs i at one)

pub put_argument-titled-requires : goal.put_argument-titled-requires
put_argument-titled-requires c =
    let ws = c.args.words.now in
    let bs = c.args.arena.now in
    let i = c.args.place in
    let at = c.requires.0.at in
    let one = sym c.node_is_group.ensures ∙ c.if-node_is_group.false in
    let d = c.node_definition-definition.result.now in
    let p = c.string_at.result in
    let n = get_or ws (nodes_place + width * i) 0 in
    let shown = controls_shown ws bs i c.args.shown in
    let turn = synth_turn ws bs i at one c.args.shown c.args.end n d p (number_fact ws bs i at) c.node_definition-definition.ensures c.string_at.ensures.0 in
    let h1 = left_less (int n ∷ (int no_node ∷ [])) (piece_argument d p ∷ shown) (left_all c.requires.2) turn c.put_pair-next.ensures in
    record { short = rw c.node_definition-definition.ensures (synth_short ws bs i at one); small = c.string_at.ensures.1; room = left_some (piece_argument d p ∷ []) shown h1 refl }

pub put_controls-requires : goal.put_controls-requires
put_controls-requires c =
    let ws = c.args.words.now in
    let bs = c.args.arena.now in
    let i = c.args.place in
    let at = c.requires.0.at in
    let one = sym c.node_is_group.ensures ∙ c.if-node_is_group.false in
    let d = c.node_definition-definition.result.now in
    let p = c.string_at.result in
    let n = get_or ws (nodes_place + width * i) 0 in
    let shown = controls_shown ws bs i c.args.shown in
    let turn = synth_turn ws bs i at one c.args.shown c.args.end n d p (number_fact ws bs i at) c.node_definition-definition.ensures c.string_at.ensures.0 in
    let h1 = left_less (int n ∷ (int no_node ∷ [])) (piece_argument d p ∷ shown) (left_all c.requires.2) turn c.put_pair-next.ensures in
    let h2 = left_less (piece_argument d p ∷ []) shown h1 refl c.put_argument-titled.ensures in
    (record { at = at; single = one; shape = c.requires.0.shape c.if-shown.true one }, rw c.if-shown.true at h2.room)

pub returns-then-shown : goal.returns-then-shown
returns-then-shown c =
    let ws = c.args.words.now in
    let bs = c.args.arena.now in
    let i = c.args.place in
    let at = c.requires.0.at in
    let one = sym c.node_is_group.ensures ∙ c.if-node_is_group.false in
    let d = c.node_definition-definition.result.now in
    let p = c.string_at.result in
    let n = get_or ws (nodes_place + width * i) 0 in
    let shown = controls_shown ws bs i c.args.shown in
    let turn = synth_turn ws bs i at one c.args.shown c.args.end n d p (number_fact ws bs i at) c.node_definition-definition.ensures c.string_at.ensures.0 in
    let h1 = left_less (int n ∷ (int no_node ∷ [])) (piece_argument d p ∷ shown) (left_all c.requires.2) turn c.put_pair-next.ensures in
    let h2 = left_less (piece_argument d p ∷ []) shown h1 refl c.put_argument-titled.ensures in
    let whole = controls_shown ws bs i true in
    left_none (left_less whole [] h2 (ap (controls_shown ws bs i) c.if-shown.true ∙ sym (append-nil whole)) c.put_controls.ensures) refl

pub returns : goal.returns
returns c =
    let ws = c.args.words.now in
    let bs = c.args.arena.now in
    let i = c.args.place in
    let at = c.requires.0.at in
    let one = sym c.node_is_group.ensures ∙ c.if-node_is_group.false in
    let d = c.node_definition-definition.result.now in
    let p = c.string_at.result in
    let n = get_or ws (nodes_place + width * i) 0 in
    let shown = controls_shown ws bs i c.args.shown in
    let turn = synth_turn ws bs i at one c.args.shown c.args.end n d p (number_fact ws bs i at) c.node_definition-definition.ensures c.string_at.ensures.0 in
    let h1 = left_less (int n ∷ (int no_node ∷ [])) (piece_argument d p ∷ shown) (left_all c.requires.2) turn c.put_pair-next.ensures in
    let h2 = left_less (piece_argument d p ∷ []) shown h1 refl c.put_argument-titled.ensures in
    left_none h2 (synth_hidden ws bs i at one c.args.shown c.if-shown.false)
