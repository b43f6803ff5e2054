-- `store::find::version_place` meets its contract.
use mathlib.Core.Path.{◌∙◌}
use native.Mathlib.Omega.{arith}
use Rattle.store.specs.VersionPlaceLaws.{version_inside, entry_there, versions_of, versions_ahead, version_none, version_stands}
use Rattle.store.proofs.find.version_place.Goals as goal

pub returns-in_default : goal.returns-in_default
returns-in_default c = version_none c.args.name.now c.args.store.now _ c.args.number c.in_default.ensures.found

pub versions_at-requires : goal.versions_at-requires
versions_at-requires c =
    let s = c.args.store.now in
    let t = c.find_entry.ensures.stands in
    record { entry = c.in-Ok.ensures.found.entry; after = c.in-Ok.ensures.found.after; ahead = entry_there c.args.name.now s c.in-Ok.at t c.in-Ok.ensures.found }

pub version_from-requires : goal.version_from-requires
version_from-requires c =
    let s = c.args.store.now in
    let t = c.find_entry.ensures.stands in
    versions_ahead c.args.name.now s c.in-Ok.at t c.in-Ok.ensures.found c.versions_at.result c.versions_at.ensures

pub returns-in_err-from : goal.returns-in_err-from
returns-in_err-from c =
    let a = c.args in
    let s = a.store.now in
    let t = c.find_entry.ensures.stands in
    let p = versions_ahead a.name.now s c.in-Ok.at t c.in-Ok.ensures.found c.versions_at.result c.versions_at.ensures in
    rw c.from_residual.ensures (versions_of a.name.now s c.in-Ok.at t c.in-Ok.ensures.found a.number ∙ c.in_err-from.ensures p)

pub overflow_add-result : goal.overflow_add-result
overflow_add-result c =
    let a = c.args in
    let s = a.store.now in
    let t = c.find_entry.ensures.stands in
    let p = versions_ahead a.name.now s c.in-Ok.at t c.in-Ok.ensures.found c.versions_at.result c.versions_at.ensures in
    let inside = version_inside s c.versions_at.result a.number c.in_ok-from.from c.in_ok-from.to p (c.in_ok-from.ensures p) in
    omega arith

pub returns : goal.returns
returns c =
    let a = c.args in
    let s = a.store.now in
    let t = c.find_entry.ensures.stands in
    let p = versions_ahead a.name.now s c.in-Ok.at t c.in-Ok.ensures.found c.versions_at.result c.versions_at.ensures in
    version_stands a.name.now s a.number c.versions_at.result c.in_ok-from.from c.in_ok-from.to p
    (versions_of a.name.now s c.in-Ok.at t c.in-Ok.ensures.found a.number) (c.in_ok-from.ensures p)
