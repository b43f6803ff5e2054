-- `controlcommands::change_synth` meets its contract: refusal 21 or 28, or the synth changed.
use mathlib.Core.Path.{refl, ap, ◌∙◌}
use native.Mathlib.Omega.{arith}
use Rattle.controls.specs.Cover.{cover_within, cover_inside}
use Rattle.controls.specs.Ready.{ready_known, synth_ready, synth_readable}
use Rattle.model.specs.Answers.{done_or}
use Rattle.std.proofs.lemmas.Result.{err_from_is_err_and}
use Rattle.controlcommands.specs.Alone.{asked_alone, changed_alone}
use Rattle.controlcommands.proofs.change_synth.Goals as goal

pub node_definition-definition-requires : goal.node_definition-definition-requires
node_definition-definition-requires c =
    let a = c.args in
    let p = c.requires in
    let ready = ready_known a.words.now a.arena.now p.0 in
    (ready.size, omega (arith, ready.few, p.1), (synth_ready a.words.now a.arena.now ready a.at p.1 p.2).slot)

pub key_cover-cover-requires : goal.key_cover-cover-requires
key_cover-cover-requires c =
    let a = c.args in
    let p = c.requires in
    synth_readable a.words.now a.arena.now (ready_known a.words.now a.arena.now p.0) a.at p.1 p.2 c.node_definition-definition.ensures

pub asked_by-requires : goal.asked_by-requires
asked_by-requires c =
    let a = c.args in
    let p = c.requires in (
      synth_readable a.words.now a.arena.now (ready_known a.words.now a.arena.now p.0) a.at p.1 p.2 c.node_definition-definition.ensures,
      cover_within a.wanted.key a.bytes.now c.node_definition-definition.result.now c.key_cover-cover.result c.key_cover-cover.ensures,
    )

pub change_node-requires : goal.change_node-requires
change_node-requires c =
    let a = c.args in
    let p = c.requires in
    let ready = ready_known a.words.now a.arena.now p.0 in (
      ready.size,
      omega (arith, ready.few, p.1),
      (synth_ready a.words.now a.arena.now ready a.at p.1 p.2).row,
      cover_inside a.wanted.key a.bytes.now c.node_definition-definition.result.now c.key_cover-cover.result c.key_cover-cover.ensures,
    )

pub returns-in_err-asked_by : goal.returns-in_err-asked_by
returns-in_err-asked_by c =
    let a = c.args in
    let q = c.requires in
    let p = err_from_is_err_and c.from_residual.result c.from_residual.ensures.1 in
    rw (p.1, p.2)
    (record {
      answers = ap (done_or {A = Unit {0}}) (c.in_err-asked_by.ensures ∙ asked_alone a.words.now a.arena.now q.0 a.at q.1 q.2 a.wanted.key a.bytes.now a.wanted.count c.node_definition-definition.result.now c.node_definition-definition.ensures c.key_cover-cover.result c.key_cover-cover.ensures);
      words = refl;
    })

pub returns : goal.returns
returns c =
    let a = c.args in
    let p = c.requires in
    changed_alone a.words.now a.arena.now p.0 a.at p.1 p.2 a.wanted.key a.bytes.now a.wanted.count c.node_definition-definition.result.now c.node_definition-definition.ensures c.key_cover-cover.result c.key_cover-cover.ensures
    a.wanted.change c.change_node.new.words c.in_ok-asked_by.ensures c.change_node.ensures
