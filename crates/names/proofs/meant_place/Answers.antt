use Rattle.std.proofs.Common.{sym}
use Rattle.names.specs.Named.{named_number, named_latest}
use Rattle.names.proofs.meant_place.Goals as goal

pub returns-else-latest-eq0-clause-named : goal.returns-else-latest-eq0-clause-named
returns-else-latest-eq0-clause-named c =
    named_latest c.args.argument c.args.words.now _ (sym c.in-Latest.ensures) c.if-latest-eq0.false c.place_of.ensures.place

pub returns-in-Number-clause-named : goal.returns-in-Number-clause-named
returns-in-Number-clause-named c =
    named_number c.args.argument c.args.words.now c.in-Number.number _ (sym c.in-Number.ensures) c.place_of-in-Number.ensures.place
