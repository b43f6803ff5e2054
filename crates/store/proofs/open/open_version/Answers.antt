-- `store::open::open_version` meets its contract: a version more of the entry that was found, or an entry.
use native.Mathlib.Omega.{arith}
use Rattle.store.specs.OpeningLaws.{version_room, opened_version, entry_room, opened_entry}
use Rattle.store.proofs.open.open_version.Goals as goal

pub add_version-requires : goal.add_version-requires
add_version-requires c =
    let s = c.args.store.now in
    let name = c.args.name.now in
    let p = c.find_entry.ensures.stands in
    version_room name s _ p c.in-Ok.ensures.found c.args.size c.requires

pub add_entry-requires : goal.add_entry-requires
add_entry-requires c =
    let s = c.args.store.now in
    let name = c.args.name.now in
    let p = c.find_entry.ensures.stands in
    entry_room name s _ p c.in-Err.ensures.found c.args.size c.requires

pub returns-in-Ok : goal.returns-in-Ok
returns-in-Ok c =
    let s = c.args.store.now in
    let name = c.args.name.now in
    let p = c.find_entry.ensures.stands in
    opened_version name s _ p c.in-Ok.ensures.found c.args.size c.add_version.result _ c.requires c.add_version.ensures (omega arith)

pub returns-in-Err : goal.returns-in-Err
returns-in-Err c =
    let s = c.args.store.now in
    let name = c.args.name.now in
    let p = c.find_entry.ensures.stands in
    opened_entry name s _ p c.in-Err.ensures.found c.args.size c.add_entry.result _ c.requires c.add_entry.ensures (omega arith)
