-- `definitioncommands::free` meets its contract: refusal 16, or one resident retired.
use Rattle.std.proofs.Common.{refl, sym, ◌∙◌, rules}
use Rattle.std.proofs.lemmas.Result.{err_from_is_err_and}
use Rattle.definitions.specs.Slots.{found_slot, found_none}
use Rattle.definitioncommands.specs.Steps.{formed_table, no_definition, free_none, free_done}
use Rattle.definitioncommands.proofs.free.Goals as goal

pub find_resident-found-requires : goal.find_resident-found-requires
find_resident-found-requires c = formed_table c.args.words.now c.args.arena.now c.requires

pub returns-in_err-k : goal.returns-in_err-k
returns-in_err-k c =
    let a = c.args in
    let p = err_from_is_err_and c.from_residual.result c.from_residual.ensures.1 in
    rw (p.1, p.2, no_definition _ _ _ c.in_err-k.ensures.value)
    (free_none a.bytes.now a.words.now a.arena.now _ refl (found_none _ (sym c.find_resident-found.ensures ∙ c.in_err-k.ensures.ok_part)))

pub retire-requires : goal.retire-requires
retire-requires c =
    let found = found_slot _ c.in_ok-k.k (sym c.find_resident-found.ensures ∙ c.in_ok-k.ensures.ok_part) in
    search (rules, found)

pub returns : goal.returns
returns c =
    let a = c.args in
    let found = found_slot _ c.in_ok-k.k (sym c.find_resident-found.ensures ∙ c.in_ok-k.ensures.ok_part) in
    free_done a.bytes.now a.words.now a.arena.now c.in_ok-k.k (sym found.0) c.requires c.retire.new.table found.1 c.retire.ensures
