-- `store::measuring::measure` meets its contract: the entry that was found, or none.
use Prim.Native.Nat.{◌+◌}
use mathlib.Core.Path.{refl}
use lib.ListN.{length}
use Rattle.store.specs.OpeningLaws.{measured_here, measured_new}
use Rattle.store.proofs.measuring.measure.Goals as goal

pub returns-in-Ok : goal.returns-in-Ok
returns-in-Ok c =
    let s = c.args.store.now in
    let name = c.args.name.now in
    let p = c.find_entry.ensures.stands in
    measured_here name s _ p c.in-Ok.ensures.found c.measure_entry.result.length c.measure_entry.result.versions c.measure_entry.result.highest c.measure_entry.ensures

pub returns-in-Err : goal.returns-in-Err
returns-in-Err c =
    let s = c.args.store.now in
    let name = c.args.name.now in
    let p = c.find_entry.ensures.stands in
    measured_new name s _ p c.in-Err.ensures.found (c.in-Err.at + (3 + length name + 14)) refl
