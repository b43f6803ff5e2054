-- `definitioncommands::load_file` meets its contract: refusal 12, or the file loaded.
use mathlib.Core.Path.{sym, ◌∙◌}
use Rattle.definitions.specs.Lent.{receive_lent}
use Rattle.definitioncommands.specs.Steps.{formed_table, receive-full, receive_done, full-fact, held_here}
use Rattle.definitioncommands.proofs.load_file.Goals as goal

pub staying_count-staying-requires : goal.staying_count-staying-requires
staying_count-staying-requires c =
    (formed_table c.args.words.now c.args.arena.now c.requires.0, c.requires.1.0)

pub returns-then-no_slot : goal.returns-then-no_slot
returns-then-no_slot c =
    let a = c.args in
    let fact = full-fact a.bytes.now a.words.now a.arena.now c.wide.result a.count c.staying_count-staying.result c.held_slots-held.result c.wide.ensures c.held_slots-held.ensures c.requires.1.1 c.staying_count-staying.ensures in
    receive-full a.bytes.now a.words.now a.arena.now c.requires.1.0 (sym fact ∙ sym c.no_slot.ensures ∙ c.if-no_slot.true)

pub load-requires : goal.load-requires
load-requires c =
    (formed_table c.args.words.now c.args.arena.now c.requires.0, c.requires.1.0)

pub returns : goal.returns
returns c =
    let a = c.args in
    let fact = full-fact a.bytes.now a.words.now a.arena.now c.wide.result a.count c.staying_count-staying.result c.held_slots-held.result c.wide.ensures c.held_slots-held.ensures c.requires.1.1 c.staying_count-staying.ensures in
    let held = held_here a.bytes.now a.words.now a.arena.now c.wide.result c.held_slots-held.result c.wide.ensures c.held_slots-held.ensures in
    receive_done a.bytes.now a.words.now a.arena.now _ _ c.requires.1.0 (sym fact ∙ sym c.no_slot.ensures ∙ c.if-no_slot.false)
    (receive_lent a.words.now a.arena.now a.bytes.now c.held_slots-held.result c.load.new.table c.load.new.arena c.requires.0.size held c.load.ensures)
