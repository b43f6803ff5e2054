-- `settings::saving::save` meets its contract: the refusal of the checks that it begins with, or the save of the synth's settings.
use mathlib.Core.Path.{◌≡◌, sym, ap, ap₂, subst, ◌∙◌}
use mathlib.Core.List.{List}
use native.Mathlib.Omega.{arith}
use borrow.Author.Rules.{rules}
use lib.ListN.{length-take, length-drop}
use Prim.Native.Nat.{ℕ}
use Rattle.std.proofs.lemmas.Result.{err_from_is_err_and}
use Rattle.words.specs.Bytes.{AreBytes}
use Rattle.state.specs.Known.{known}
use Rattle.model.specs.Layout.{record_in}
use Rattle.model.specs.Engine.{decode}
use Rattle.controls.specs.Ready.{ready_known, synth_ready, synth_readable}
use Rattle.slots.specs.Slots.{slot_bytes}
use Rattle.readable.specs.Lookup.{name_in}
use Rattle.store.specs.Store.{Setting}
use Rattle.settings.specs.Settings.{settings_of}
use Rattle.settings.specs.OwnFields.{taken_in}
use Rattle.settings.specs.Saving.{SavesTaken}
use Rattle.settings.specs.SavesLaws.{row_in, saves_unfit, saves_synth, name-of, settings-of}
use Rattle.settings.proofs.saving.save.Goals as goal

pub returns-in_err-at : goal.returns-in_err-at
returns-in_err-at c =
    let a = c.args in
    let p = err_from_is_err_and c.from_residual.result c.from_residual.ensures.1 in
    rw (p.1, p.2) (saves_unfit a.node a.words.now a.arena.now a.store.now (λ i. search rules) (record { words = λ i. (c.type_inv.words i).fits; arena = λ i. (c.type_inv.arena i).fits }) _ c.in_err-at.ensures)

pub node_definition-definition-requires : goal.node_definition-definition-requires
node_definition-definition-requires c =
    let a = c.args in
    let s = c.in_ok-at.ensures in
    let k = known a.words.now a.arena.now s.whole in
    let live = s.found.live in
    let synth = synth_ready a.words.now a.arena.now (ready_known a.words.now a.arena.now k) _ live s.single in
    (k.size, omega (arith, k.few), synth.slot)

pub node_row-requires : goal.node_row-requires
node_row-requires c =
    let a = c.args in
    let s = c.in_ok-at.ensures in
    let k = known a.words.now a.arena.now s.whole in
    let live = s.found.live in
    (k.size, omega (arith, k.few))

pub slice_bounds-save_taken-count : goal.slice_bounds-save_taken-count
slice_bounds-save_taken-count c =
    let a = c.args in
    let s = c.in_ok-at.ensures in
    let k = known a.words.now a.arena.now s.whole in
    let live = s.found.live in
    let synth = synth_ready a.words.now a.arena.now (ready_known a.words.now a.arena.now k) _ live s.single in
    omega (arith, synth.row, c.wide.ensures, c.node_row.ensures)

pub slice_bounds-save_taken-start : goal.slice_bounds-save_taken-start
slice_bounds-save_taken-start c =
    let a = c.args in
    let s = c.in_ok-at.ensures in
    let k = known a.words.now a.arena.now s.whole in
    let live = s.found.live in
    let synth = synth_ready a.words.now a.arena.now (ready_known a.words.now a.arena.now k) _ live s.single in
    omega (arith, synth.row, c.wide.ensures, c.node_row.ensures)

pub slice_bounds-save_taken-end : goal.slice_bounds-save_taken-end
slice_bounds-save_taken-end c =
    let a = c.args in
    let s = c.in_ok-at.ensures in
    let k = known a.words.now a.arena.now s.whole in
    let live = s.found.live in
    let synth = synth_ready a.words.now a.arena.now (ready_known a.words.now a.arena.now k) _ live s.single in
    omega (arith, k.size, synth.row, c.wide.ensures, c.node_row.ensures)

pub save_taken-requires : goal.save_taken-requires
save_taken-requires c =
    let a = c.args in
    let s = c.in_ok-at.ensures in
    let k = known a.words.now a.arena.now s.whole in
    let live = s.found.live in
    let synth = synth_ready a.words.now a.arena.now (ready_known a.words.now a.arena.now k) _ live s.single in
    let row = synth.row in
    let size = k.size in
    let told = c.wide.ensures in
    let stored = c.node_row.ensures in (
      synth_readable a.words.now a.arena.now (ready_known a.words.now a.arena.now k) _ live s.single c.node_definition-definition.ensures,
      simp (length-take, length-drop) (omega arith),
      s.stands,
    )

pub returns : goal.returns
returns c =
    let lent : AreBytes c.args.store.now = λ i. search rules in
    let a = c.args in
    let ws = a.words.now in
    let bs = a.arena.now in
    let store = a.store.now in
    let s = c.in_ok-at.ensures in
    let here = c.in_ok-at.at in
    let live = s.found.live in
    let k = known ws bs s.whole in
    let d = c.node_definition-definition.result.now in
    let same : d ≡ slot_bytes ws bs (record_in ws here).slot = c.node_definition-definition.ensures in
    let row : c.wide.result ≡ (record_in ws here).row = c.wide.ensures ∙ c.node_row.ensures in
    let name = name-of ws bs k here live s.single ∙ ap name_in (sym same) in
    let settings = settings-of ws bs k here live s.single ∙ ap₂ (λ (l : List ℕ) (r : ℕ). taken_in l (row_in ws r)) (sym same) (sym row) in
    saves_synth a.node ws bs store lent (record { words = λ i. (c.type_inv.words i).fits; arena = λ i. (c.type_inv.arena i).fits }) here s
    (subst (λ (l : List ℕ). SavesTaken l (settings_of (record_in ws here) (decode ws bs)) store c.save_taken.result c.save_taken.new.store) (sym name)
    (subst (λ (cs : List Setting). SavesTaken (name_in d) cs store c.save_taken.result c.save_taken.new.store) (sym settings) c.save_taken.ensures))
