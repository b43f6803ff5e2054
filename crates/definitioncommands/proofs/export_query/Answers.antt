-- `definitioncommands::export_query` meets its contract: refusal 24, or the export.
use native.Mathlib.Omega.{arith}
use Rattle.definitioncommands.specs.Steps.{formed_table, export-long, export_done}
use Rattle.definitioncommands.proofs.export_query.Goals as goal

pub export_length-size-requires : goal.export_length-size-requires
export_length-size-requires c =
    formed_table c.args.words.now c.args.arena.now c.requires

pub returns-then-out-size : goal.returns-then-out-size
returns-then-out-size c =
    let a = c.args in
    let long = c.export_length-size.ensures in
    export-long a.words.now a.arena.now a.out.now (omega arith)

pub export-requires : goal.export-requires
export-requires c =
    let long = c.export_length-size.ensures in
    (formed_table c.args.words.now c.args.arena.now c.requires, omega arith)

pub returns : goal.returns
returns c =
    let a = c.args in
    export_done a.words.now a.arena.now a.out.now c.export_length-size.result c.export.new.out c.export_length-size.ensures (omega arith) c.export.ensures
