-- `store::find::versions_at` meets its contract.
use Rattle.store.specs.FindLaws.{name_ahead, highest_ahead, versions-from}
use Rattle.store.proofs.find.versions_at.Goals as goal

pub past_field-requires : goal.past_field-requires
past_field-requires c =
    let a = c.args in
    let e = c.requires in
    (name_ahead a.store.now a.at e.entry e.after e.ahead).inside

pub past_field-requires-2 : goal.past_field-requires-2
past_field-requires-2 c =
    let a = c.args in
    let e = c.requires in
    (highest_ahead a.store.now a.at e.entry e.after e.ahead c.past_field.result c.past_field.ensures).inside

pub returns : goal.returns
returns c =
    let a = c.args in
    λ e es p. versions-from a.store.now a.at e es p c.past_field.result c.past_field.ensures
    c.past_field-2.result c.past_field-2.ensures
