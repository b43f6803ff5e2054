use Rattle.synthdef.specs.Reading.{accepted, refused, widens_none, widens_twin, widens_refused}
use mathlib.Core.Path.{sym}
use native.Mathlib.Omega.{arith}
use Rattle.synthdef.proofs.synthdef_widen.Goals as goal

pub twin_size-size-requires : goal.twin_size-size-requires
twin_size-size-requires c = accepted c.args.file.now (sym c.in-Ok.ensures)

pub returns-then-out-size : goal.returns-then-out-size
returns-then-out-size c =
    let s = c.args.file.now in
    widens_none s c.args.out.now (accepted s (sym c.in-Ok.ensures)) (omega (arith, c.twin_size-size.ensures))

pub write_twin-requires : goal.write_twin-requires
write_twin-requires c = (accepted c.args.file.now (sym c.in-Ok.ensures), omega (arith, c.twin_size-size.ensures))

pub returns-else-out-size : goal.returns-else-out-size
returns-else-out-size c =
    let s = c.args.file.now in
    widens_twin s c.args.out.now (accepted s (sym c.in-Ok.ensures)) (omega (arith, c.twin_size-size.ensures)) c.twin_size-size.ensures c.write_twin.ensures

pub returns-in-Err : goal.returns-in-Err
returns-in-Err c =
    let s = c.args.file.now in
    widens_refused s c.args.out.now (refused s (sym c.in-Err.ensures))
