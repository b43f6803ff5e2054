-- `settings::synth::synth_place` meets its contract: each refusal by the check that fires.
use mathlib.Core.Path.{sym, ◌∙◌}
use native.Mathlib.Omega.{arith}
use Rattle.std.proofs.lemmas.Result.{err_from_is_err_and}
use Rattle.state.specs.Known.{known}
use Rattle.names.specs.Named.{findable}
use Rattle.settings.specs.Synths.{synth_bad_state, synth_unformed, synth_unknown, synth_group}
use Rattle.settings.proofs.synth.synth_place.Goals as goal

pub returns-then-not-well_formed : goal.returns-then-not-well_formed
returns-then-not-well_formed c =
    let a = c.args in
    synth_bad_state a.node a.words.now a.arena.now a.store.now (sym c.well_formed-2.ensures ∙ c.if-not-well_formed.true)

pub returns-then-not-store_formed : goal.returns-then-not-store_formed
returns-then-not-store_formed c =
    let a = c.args in
    let whole = sym c.well_formed-2.ensures ∙ c.if-not-well_formed.false in
    synth_unformed a.node a.words.now a.arena.now a.store.now whole (sym c.store_formed.ensures ∙ c.if-not-store_formed.true)

pub node_place-requires : goal.node_place-requires
node_place-requires c =
    let a = c.args in
    let whole = sym c.well_formed-2.ensures ∙ c.if-not-well_formed.false in
    findable a.words.now a.arena.now (known a.words.now a.arena.now whole)

pub returns-in_err-at : goal.returns-in_err-at
returns-in_err-at c =
    let a = c.args in
    let whole = sym c.well_formed-2.ensures ∙ c.if-not-well_formed.false in
    let stands = sym c.store_formed.ensures ∙ c.if-not-store_formed.false in
    let p = err_from_is_err_and c.from_residual.result c.from_residual.ensures.1 in
    rw (p.1, p.2) (synth_unknown a.node a.words.now a.arena.now a.store.now whole stands _ c.in_err-at.ensures)

pub node_is_group-requires : goal.node_is_group-requires
node_is_group-requires c =
    let a = c.args in
    let whole = sym c.well_formed-2.ensures ∙ c.if-not-well_formed.false in
    let k = known a.words.now a.arena.now whole in
    let live = c.in_ok-at.ensures.live in
    (k.size, omega (arith, k.few))

pub returns-then-node_is_group : goal.returns-then-node_is_group
returns-then-node_is_group c =
    let a = c.args in
    let whole = sym c.well_formed-2.ensures ∙ c.if-not-well_formed.false in
    let stands = sym c.store_formed.ensures ∙ c.if-not-store_formed.false in
    synth_group a.node a.words.now a.arena.now a.store.now whole stands _ c.in_ok-at.ensures (sym c.node_is_group.ensures ∙ c.if-node_is_group.true)

pub returns : goal.returns
returns c =
    let whole = sym c.well_formed-2.ensures ∙ c.if-not-well_formed.false in
    let stands = sym c.store_formed.ensures ∙ c.if-not-store_formed.false in
    record { whole = whole; stands = stands; found = c.in_ok-at.ensures; single = sym c.node_is_group.ensures ∙ c.if-node_is_group.false }
