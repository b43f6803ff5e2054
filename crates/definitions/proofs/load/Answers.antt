use Rattle.definitions.specs.Retired.{retired_formed}
use Rattle.definitions.specs.Loading.{load_whole}
use Rattle.definitions.proofs.load.Goals as goal

pub place_all-requires : goal.place_all-requires
place_all-requires c = (rw c.retire_named.ensures (retired_formed c.args.table.now c.args.arena.now _ c.requires.0), c.requires.1)

pub returns : goal.returns
returns c =
    let a = c.args in
    load_whole a.table.now a.arena.now a.file.now a.held c.retire_named.new.table c.place_all.new.table c.place_all.new.arena c.requires.0 c.retire_named.ensures c.place_all.ensures
