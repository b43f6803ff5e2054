-- `store::drop::drop_from` meets its contract: the run that was found, or none.
use Prim.Native.Nat.{◌+◌}
use native.Mathlib.Omega.{arith}
use Rattle.store.specs.OpeningLaws.{numbered_inside}
use Rattle.store.proofs.drop.drop_from.Goals as goal

pub cut_run-requires : goal.cut_run-requires
cut_run-requires c =
    let vs = c.requires.versions in
    let found = c.in-Some.ensures vs in
    let last = numbered_inside (c.args.head + 7) c.args.number c.in-Some.from c.in-Some.to vs.versions found in
    record { formed = c.requires.formed; ordered = omega (arith, found.end); inside = omega (arith, last, c.requires.before) }
