-- `store::find::past_entry` meets its contract.
use Rattle.store.specs.FindLaws.{past_entry}
use Rattle.store.proofs.find.past_entry.Goals as goal

pub returns : goal.returns
returns c =
    let a = c.args in
    past_entry a.store.now a.at c.versions_at.result c.past_versions.result c.versions_at.ensures
    c.past_versions.ensures
