use Rattle.std.proofs.Common.{◌*◌, ◌-◌, ◌/◌, ◌∙◌, arith}
use Rattle.nodes.specs.Place.{group_slot}
use Rattle.model.specs.Layout.{count_in}
use Rattle.queries.specs.Tally.{slotted, tally_most, parts_none, tallied_parts, tallies_few, summed_none}
use Rattle.queries.proofs.status.totals.Goals as goal

pub tally_parts-requires : goal.tally_parts-requires
tally_parts-requires c =
    let ws = c.args.words.now in
    (slotted ws c.args.arena.now c.requires, omega (arith, c.wide-part.ensures), parts_none ws (c.wide-part.result / 4))

pub tally_rest-requires : goal.tally_rest-requires
tally_rest-requires c = (slotted c.args.words.now c.args.arena.now c.requires, omega (arith, c.wide-part.ensures), c.tally_parts.ensures.fourth)

pub total-groups-requires : goal.total-groups-requires
total-groups-requires c =
    let ws = c.args.words.now in
    let part = c.wide-part.result / 4 in
    let all = tallied_parts ws part (count_in ws - 3 * part) _ _ c.tally_parts.ensures c.tally_rest.ensures (omega arith) in
    (omega arith, tallies_few ws _ (slotted ws c.args.arena.now c.requires) all group_slot (omega arith))

pub overflow_sub-words : goal.overflow_sub-words
overflow_sub-words c =
    let ws = c.args.words.now in
    let part = c.wide-part.result / 4 in
    let all = tallied_parts ws part (count_in ws - 3 * part) _ _ c.tally_parts.ensures c.tally_rest.ensures (omega arith) in
    omega (arith, c.total-groups.ensures, all group_slot (omega arith), tally_most ws group_slot)

pub units_held-requires : goal.units_held-requires
units_held-requires c =
    let ws = c.args.words.now in
    let part = c.wide-part.result / 4 in
    let all = tallied_parts ws part (count_in ws - 3 * part) _ _ c.tally_parts.ensures c.tally_rest.ensures (omega arith) in
    (c.requires, all, summed_none ws c.args.arena.now _ (c.total-groups.ensures ∙ all group_slot (omega arith)))

pub returns : goal.returns
returns c =
    let ws = c.args.words.now in
    let part = c.wide-part.result / 4 in
    let all = tallied_parts ws part (count_in ws - 3 * part) _ _ c.tally_parts.ensures c.tally_rest.ensures (omega arith) in
    (c.units_held.ensures, c.total-groups.ensures ∙ all group_slot (omega arith))
