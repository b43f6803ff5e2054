-- `newsynth::checks::synth_spot` meets its contract: each refusal by the check that fires.
use native.Mathlib.Omega.{arith}
use mathlib.Core.Path.{◌≡◌, sym, ◌∙◌}
use Rattle.std.specs.Prelude.{Some, None}
use Rattle.std.proofs.lemmas.Result.{err_from_is_err_and}
use Rattle.refusals.specs.declared.Refusal.TheVariants.{NoDefinition}
use Rattle.treecommands.specs.Ready.{ready}
use Rattle.newsynth.specs.Checks.{slot_meant, slot_present, slot_absent, synth_number, synth_live, synth_absent, synth-unknown, synth_kind, synth-spent, synth-full, synth_clear}
use Rattle.newsynth.specs.Synth.{table_formed}
use Rattle.newsynth.proofs.checks.synth_spot.Goals as goal

pub returns-then-bad_number : goal.returns-then-bad_number
returns-then-bad_number c =
    let a = c.args in
    synth_number a.number a.action a.target a.bytes.now a.words.now a.arena.now (sym c.bad_number.ensures ∙ c.if-bad_number.true)

pub returns-then-is_live : goal.returns-then-is_live
returns-then-is_live c =
    let a = c.args in
    let good = sym c.bad_number.ensures ∙ c.if-bad_number.false in
    synth_live a.number a.action a.target a.bytes.now a.words.now a.arena.now good (sym c.is_live.ensures ∙ c.if-is_live.true)

pub find_resident-named-requires : goal.find_resident-named-requires
find_resident-named-requires c = table_formed c.args.words.now c.args.arena.now c.requires

pub returns-in_err-slot : goal.returns-in_err-slot
returns-in_err-slot c =
    let a = c.args in
    let good = sym c.bad_number.ensures ∙ c.if-bad_number.false in
    let new = sym c.is_live.ensures ∙ c.if-is_live.false in
    let none : c.find_resident-named.result ≡ None = grind arith in
    let why : c.in_err-slot.field-0.0 ≡ NoDefinition = grind arith in
    let p = err_from_is_err_and c.from_residual.result c.from_residual.ensures.1 in
    rw (p.1, p.2, why) (synth_absent a.number a.action a.target a.bytes.now a.words.now a.arena.now good new (slot_absent a.bytes.now a.words.now a.arena.now c.find_resident-named.result c.find_resident-named.ensures none))

pub returns-in_err-at : goal.returns-in_err-at
returns-in_err-at c =
    let a = c.args in
    let good = sym c.bad_number.ensures ∙ c.if-bad_number.false in
    let new = sym c.is_live.ensures ∙ c.if-is_live.false in
    let named : c.find_resident-named.result ≡ Some c.in_ok-slot.slot = grind arith in
    let resident = slot_present a.bytes.now a.words.now a.arena.now c.find_resident-named.result c.find_resident-named.ensures _ named in
    let p = err_from_is_err_and c.from_residual-in_err-at.result c.from_residual-in_err-at.ensures.1 in
    rw (p.1, p.2) (synth-unknown a.number a.action a.target a.bytes.now a.words.now a.arena.now good new resident _ c.in_err-at.ensures)

pub returns-then-bad_target : goal.returns-then-bad_target
returns-then-bad_target c =
    let a = c.args in
    let good = sym c.bad_number.ensures ∙ c.if-bad_number.false in
    let new = sym c.is_live.ensures ∙ c.if-is_live.false in
    let named : c.find_resident-named.result ≡ Some c.in_ok-slot.slot = grind arith in
    let resident = slot_present a.bytes.now a.words.now a.arena.now c.find_resident-named.result c.find_resident-named.ensures _ named in
    synth_kind a.number a.action a.target a.bytes.now a.words.now a.arena.now good new resident (ready a.words.now a.arena.now c.requires) _ c.in_ok-at.ensures (sym c.bad_target.ensures ∙ c.if-bad_target.true)

pub returns-then-is_spent : goal.returns-then-is_spent
returns-then-is_spent c =
    let a = c.args in
    let good = sym c.bad_number.ensures ∙ c.if-bad_number.false in
    let new = sym c.is_live.ensures ∙ c.if-is_live.false in
    let named : c.find_resident-named.result ≡ Some c.in_ok-slot.slot = grind arith in
    let resident = slot_present a.bytes.now a.words.now a.arena.now c.find_resident-named.result c.find_resident-named.ensures _ named in
    let kind = sym c.bad_target.ensures ∙ c.if-bad_target.false in
    synth-spent a.number a.action a.target a.bytes.now a.words.now a.arena.now good new resident (ready a.words.now a.arena.now c.requires) _ c.in_ok-at.ensures kind (sym c.is_spent.ensures ∙ c.if-is_spent.true)

pub returns-then-is_full : goal.returns-then-is_full
returns-then-is_full c =
    let a = c.args in
    let good = sym c.bad_number.ensures ∙ c.if-bad_number.false in
    let new = sym c.is_live.ensures ∙ c.if-is_live.false in
    let named : c.find_resident-named.result ≡ Some c.in_ok-slot.slot = grind arith in
    let resident = slot_present a.bytes.now a.words.now a.arena.now c.find_resident-named.result c.find_resident-named.ensures _ named in
    let kind = sym c.bad_target.ensures ∙ c.if-bad_target.false in
    let left = sym c.is_spent.ensures ∙ c.if-is_spent.false in
    synth-full a.number a.action a.target a.bytes.now a.words.now a.arena.now good new resident (ready a.words.now a.arena.now c.requires) _ c.in_ok-at.ensures kind left c.wide-count.result c.wide-count.ensures (sym c.is_full.ensures ∙ c.if-is_full.true)

pub returns : goal.returns
returns c =
    let a = c.args in
    let good = sym c.bad_number.ensures ∙ c.if-bad_number.false in
    let new = sym c.is_live.ensures ∙ c.if-is_live.false in
    let named : c.find_resident-named.result ≡ Some c.in_ok-slot.slot = grind arith in
    let resident = slot_present a.bytes.now a.words.now a.arena.now c.find_resident-named.result c.find_resident-named.ensures _ named in
    let kind = sym c.bad_target.ensures ∙ c.if-bad_target.false in
    let left = sym c.is_spent.ensures ∙ c.if-is_spent.false in
    synth_clear a.number a.action a.target a.bytes.now a.words.now a.arena.now good new resident (ready a.words.now a.arena.now c.requires) _ c.in_ok-at.ensures kind left c.wide-count.result c.wide-count.ensures _ (slot_meant a.bytes.now a.words.now a.arena.now c.find_resident-named.result c.find_resident-named.ensures _ named) (sym c.is_full.ensures ∙ c.if-is_full.false)
