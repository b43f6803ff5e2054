use Rattle.std.proofs.Common.{ℕ, ◌≡◌, ◌-◌, ◌%◌, List, [], ◌∷◌, length, ap, ◌∙◌, arith}
use Rattle.nodes.specs.Place.{group_slot}
use Rattle.model.specs.declared.Query.TheVariants as query
use Rattle.model.specs.Layout.{count_in}
use Rattle.model.specs.Engine.{Slot, decode, residents}
use Rattle.model.specs.Replies.{status_address, group_count}
use Rattle.slots.specs.Slots.{slots_lent}
use Rattle.replies.specs.Sent.{word_message}
use Rattle.queries.specs.Answers.{reply-sent}
use Rattle.queries.specs.Status.{view_from, status_tags, kinds_all, status_passes, status-reply}
use Rattle.queries.specs.Tally.{tally_most, groups_all}
use Rattle.queries.proofs.status.status_query.Goals as goal

pub overflow_sub-synths : goal.overflow_sub-synths
overflow_sub-synths c = omega (arith, c.totals-told.ensures.1, tally_most c.args.words.now group_slot)

pub returns : goal.returns
returns c =
    let a = c.args in
    let ws = a.words.now in
    let bs = a.arena.now in
    let units : ℕ = c.totals-told.result.units in
    let groups : ℕ = c.totals-told.result.groups in
    let are : groups ≡ group_count (view_from ws bs 0) = c.totals-told.ensures.1 ∙ groups_all ws bs in
    let synths = count_in ws - groups in
    reply-sent query.Status a.bytes.now ws bs a.out.now
    (word_message status_address status_tags (units % 4294967296 ∷ (synths ∷ (groups ∷ (c.resident_count-names.result ∷ []))))) _ _
    (status_passes a.bytes.now (decode ws bs))
    (status-reply units synths groups c.resident_count-names.result a.bytes.now ws bs c.totals-told.ensures.0 (omega (arith, are, kinds_all ws bs)) are
    (c.resident_count-names.ensures bs ∙ ap (λ (l : List Slot). length (residents l)) (slots_lent ws bs)))
    c.send_words.ensures
