use Rattle.std.proofs.Common.{ℕ, sym, ap, ◌∙◌, [], ◌∷◌}
use Rattle.model.specs.declared.Query.TheVariants as query
use Rattle.model.specs.Engine.{decode}
use Rattle.model.specs.Replies.{bus_address}
use Rattle.replies.specs.Sent.{word_message}
use Rattle.queries.specs.Answers.{reply-refused, reply-sent}
use Rattle.queries.specs.Same.{bus_tags, bus_fires, bus_passes, bus-reply}
use Rattle.queries.proofs.bus.bus_query.Goals as goal

pub returns-then-not-is_bus : goal.returns-then-not-is_bus
returns-then-not-is_bus c =
    let a = c.args in
    reply-refused (query.Bus a.bus) a.bytes.now a.words.now a.arena.now a.out.now _
    (bus_fires a.bus a.bytes.now (decode a.words.now a.arena.now) (sym c.is_bus.ensures ∙ c.if-not-is_bus.true))

pub returns : goal.returns
returns c =
    let a = c.args in
    let ws = a.words.now in
    reply-sent (query.Bus a.bus) a.bytes.now ws a.arena.now a.out.now (word_message bus_address bus_tags (a.bus ∷ (c.bus_at-value.result ∷ []))) _ _
    (bus_passes a.bus a.bytes.now (decode ws a.arena.now) (sym c.is_bus.ensures ∙ c.if-not-is_bus.false))
    (ap (λ (v : ℕ). word_message bus_address bus_tags (a.bus ∷ (v ∷ []))) c.bus_at-value.ensures ∙ bus-reply a.bus a.bytes.now ws a.arena.now)
    c.send_words.ensures
