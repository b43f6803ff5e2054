-- `store::drop::drop_version` meets its contract: a version of the entry that was found, or none.
use Rattle.store.specs.OpeningLaws.{dropped_version}
use Rattle.store.proofs.drop.drop_version.Goals as goal

pub returns-in-Ok : goal.returns-in-Ok
returns-in-Ok c =
    let s = c.args.store.now in
    let name = c.args.name.now in
    let p = c.find_entry.ensures.stands in
    dropped_version name s _ p c.in-Ok.ensures.found c.args.number c.drop_from.result _ c.drop_from.ensures
