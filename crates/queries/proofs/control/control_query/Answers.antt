-- `queries::control::control_query` meets its contract: each refusal by the check that fires, and the reply by what the control reads.
use Rattle.std.proofs.Common.{ℕ, ◌≡◌, ◌+◌, ◌*◌, [], ◌∷◌, get_or, sym, ap, ◌∙◌, arith}
use Rattle.std.proofs.lemmas.Result.{err_from_is_err_and}
use Rattle.osc.specs.Message.{int, float, message}
use Rattle.model.specs.declared.Query.TheVariants as query
use Rattle.model.specs.Layout.{nodes_place, nodes_words, record_in}
use Rattle.model.specs.Replies.{set_address, key_argument}
use Rattle.slots.specs.Slots.{part_word}
use Rattle.nodes.specs.Table.{width}
use Rattle.queries.specs.Answers.{reply-refused, reply-sent}
use Rattle.queries.specs.Held.{At}
use Rattle.queries.specs.Control.{control_unknown, control_group, control_lacks, control_passes, control-reply}
use Rattle.queries.proofs.control.control_query.Goals as goal

pub returns-in_err-at : goal.returns-in_err-at
returns-in_err-at c =
    let a = c.args in
    let ws = a.words.now in
    let bs = a.arena.now in
    let p = err_from_is_err_and c.from_residual.result c.from_residual.ensures.1 in
    rw (p.1, p.2) (reply-refused (query.Control a.node a.key) a.bytes.now ws bs a.out.now _ (control_unknown a.node a.key a.bytes.now ws bs _ c.in_err-at.ensures))

pub returns-then-node_is_group : goal.returns-then-node_is_group
returns-then-node_is_group c =
    let a = c.args in
    let ws = a.words.now in
    let bs = a.arena.now in
    let found = c.in_ok-at.ensures in
    let there : At ws bs c.in_ok-at.at = record { state = c.requires; live = found.live } in
    reply-refused (query.Control a.node a.key) a.bytes.now ws bs a.out.now _ (control_group a.node a.key a.bytes.now ws bs c.in_ok-at.at found there (sym c.node_is_group.ensures ∙ c.if-node_is_group.true))

pub returns-then-controls_missing : goal.returns-then-controls_missing
returns-then-controls_missing c =
    let a = c.args in
    let ws = a.words.now in
    let bs = a.arena.now in
    let found = c.in_ok-at.ensures in
    let there : At ws bs c.in_ok-at.at = record { state = c.requires; live = found.live } in
    let single = sym c.node_is_group.ensures ∙ c.if-node_is_group.false in
    reply-refused (query.Control a.node a.key) a.bytes.now ws bs a.out.now _ (control_lacks a.node a.key a.bytes.now ws bs c.in_ok-at.at found there single (sym c.controls_missing.ensures ∙ c.if-controls_missing.true))

pub returns : goal.returns
returns c =
    let a = c.args in
    let ws = a.words.now in
    let bs = a.arena.now in
    let here : ℕ = c.in_ok-at.at in
    let found = c.in_ok-at.ensures in
    let there : At ws bs here = record { state = c.requires; live = found.live } in
    let single = sym c.node_is_group.ensures ∙ c.if-node_is_group.false in
    let number : get_or ws (nodes_place + width * here) 0 ≡ (record_in ws here).number = sym (part_word nodes_place nodes_words (width * here) ws (omega (arith, c.requires.few, found.live))) in
    reply-sent (query.Control a.node a.key) a.bytes.now ws bs a.out.now
    (message set_address (int (get_or ws (nodes_place + width * here) 0) ∷ (key_argument a.key a.bytes.now ∷ (float c.read_key-value.result ∷ [])))) _ _
    (control_passes a.node a.key a.bytes.now ws bs here found there single (sym c.controls_missing.ensures ∙ c.if-controls_missing.false))
    (ap (λ (k : ℕ). message set_address (int k ∷ (key_argument a.key a.bytes.now ∷ (float c.read_key-value.result ∷ [])))) number
    ∙ control-reply a.node a.key a.bytes.now ws bs here found there single c.read_key-value.result c.read_key-value.ensures)
    c.send_control.ensures
