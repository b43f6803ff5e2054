use mathlib.Core.Bool.{true}
use mathlib.Core.Path.{refl, sym, ap, ◌∙◌}
use mathlib.Core.List.{[], ◌∷◌, append-nil}
use native.Mathlib.Omega.{arith}
use Rattle.nodes.specs.Structure.{no_node}
use Rattle.osc.specs.Message.{int}
use Rattle.model.specs.Layout.{record_in}
use Rattle.queries.specs.Held.{bounds}
use Rattle.treequery.specs.Pieces.{piece_argument}
use Rattle.treequery.specs.RowArguments.{children_at, row_group}
use Rattle.treequery.specs.Counting.{counting_all, counting_some, counting_less, counting_none}
use Rattle.treequery.specs.SynthRow.{controls_shown, synth_short, title_within, synth_turn, synth_hidden}
use Rattle.treequery.specs.Rows.{row_some}
use Rattle.treequery.proofs.count.count_row.Goals as goal

pub count_pair-next-requires : goal.count_pair-next-requires
count_pair-next-requires c =
    let some = row_some c.args.shown c.args.words.now c.args.arena.now c.args.end c.args.place c.requires.0.at in
    let few = c.requires.1.few in
    record { fair = c.requires.1.fair; few = omega arith }

pub returns-then-node_is_group : goal.returns-then-node_is_group
returns-then-node_is_group c =
    let ws = c.args.words.now in
    let bs = c.args.arena.now in
    rw (row_group c.args.shown ws bs c.args.end c.args.place (sym c.node_is_group.ensures ∙ c.if-node_is_group.true)) (c.count_pair-next.ensures (record_in ws c.args.place).number (children_at ws bs c.args.end c.args.place))

pub node_definition-definition-requires : goal.node_definition-definition-requires
node_definition-definition-requires c =
    let ws = c.args.words.now in
    let bs = c.args.arena.now in
    let i = c.args.place in
    let at = c.requires.0.at in
    let one = sym c.node_is_group.ensures ∙ c.if-node_is_group.false in
    let bound = bounds ws bs i at in
    (bound.size, bound.place, bound.slot one)

pub string_at-requires : goal.string_at-requires
string_at-requires c =
    let ws = c.args.words.now in
    let bs = c.args.arena.now in
    let i = c.args.place in
    let at = c.requires.0.at in
    let one = sym c.node_is_group.ensures ∙ c.if-node_is_group.false in
    rw c.node_definition-definition.ensures (title_within ws bs i at one)

pub count_piece-titled-requires : goal.count_piece-titled-requires
count_piece-titled-requires c =
    let ws = c.args.words.now in
    let bs = c.args.arena.now in
    let i = c.args.place in
    let at = c.requires.0.at in
    let one = sym c.node_is_group.ensures ∙ c.if-node_is_group.false in
    let d = c.node_definition-definition.result.now in
    let p = c.string_at.result in
    let n = (record_in ws i).number in
    let shown = controls_shown ws bs i c.args.shown in
    let turn = synth_turn ws bs i at one c.args.shown c.args.end n d p (refl) c.node_definition-definition.ensures c.string_at.ensures.0 in
    let h1 = counting_less (int n ∷ (int no_node ∷ [])) (piece_argument d p ∷ shown) (counting_all c.requires.1) turn (c.count_pair-next.ensures n no_node) in
    record { short = rw c.node_definition-definition.ensures (synth_short ws bs i at one); counts = counting_some (piece_argument d p ∷ []) shown h1 refl }

pub count_controls-requires : goal.count_controls-requires
count_controls-requires c =
    let ws = c.args.words.now in
    let bs = c.args.arena.now in
    let i = c.args.place in
    let at = c.requires.0.at in
    let one = sym c.node_is_group.ensures ∙ c.if-node_is_group.false in
    let d = c.node_definition-definition.result.now in
    let p = c.string_at.result in
    let n = (record_in ws i).number in
    let shown = controls_shown ws bs i c.args.shown in
    let turn = synth_turn ws bs i at one c.args.shown c.args.end n d p (refl) c.node_definition-definition.ensures c.string_at.ensures.0 in
    let h1 = counting_less (int n ∷ (int no_node ∷ [])) (piece_argument d p ∷ shown) (counting_all c.requires.1) turn (c.count_pair-next.ensures n no_node) in
    let h2 = counting_less (piece_argument d p ∷ []) shown h1 refl c.count_piece-titled.ensures in
    (record { at = at; single = one; shape = c.requires.0.shape c.if-shown.true one }, rw c.if-shown.true at h2.counts)

pub returns-then-shown : goal.returns-then-shown
returns-then-shown c =
    let ws = c.args.words.now in
    let bs = c.args.arena.now in
    let i = c.args.place in
    let at = c.requires.0.at in
    let one = sym c.node_is_group.ensures ∙ c.if-node_is_group.false in
    let d = c.node_definition-definition.result.now in
    let p = c.string_at.result in
    let n = (record_in ws i).number in
    let shown = controls_shown ws bs i c.args.shown in
    let turn = synth_turn ws bs i at one c.args.shown c.args.end n d p (refl) c.node_definition-definition.ensures c.string_at.ensures.0 in
    let h1 = counting_less (int n ∷ (int no_node ∷ [])) (piece_argument d p ∷ shown) (counting_all c.requires.1) turn (c.count_pair-next.ensures n no_node) in
    let h2 = counting_less (piece_argument d p ∷ []) shown h1 refl c.count_piece-titled.ensures in
    let whole = controls_shown ws bs i true in
    counting_none (counting_less whole [] h2 (ap (controls_shown ws bs i) c.if-shown.true ∙ sym (append-nil whole)) c.count_controls.ensures) refl

pub returns : goal.returns
returns c =
    let ws = c.args.words.now in
    let bs = c.args.arena.now in
    let i = c.args.place in
    let at = c.requires.0.at in
    let one = sym c.node_is_group.ensures ∙ c.if-node_is_group.false in
    let d = c.node_definition-definition.result.now in
    let p = c.string_at.result in
    let n = (record_in ws i).number in
    let shown = controls_shown ws bs i c.args.shown in
    let turn = synth_turn ws bs i at one c.args.shown c.args.end n d p (refl) c.node_definition-definition.ensures c.string_at.ensures.0 in
    let h1 = counting_less (int n ∷ (int no_node ∷ [])) (piece_argument d p ∷ shown) (counting_all c.requires.1) turn (c.count_pair-next.ensures n no_node) in
    let h2 = counting_less (piece_argument d p ∷ []) shown h1 refl c.count_piece-titled.ensures in
    counting_none h2 (synth_hidden ws bs i at one c.args.shown c.if-shown.false)
