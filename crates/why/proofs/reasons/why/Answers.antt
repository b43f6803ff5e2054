-- `why::reasons::why` meets its contract: the check, and then the look.
use Rattle.std.proofs.Common.{ℕ, sym, ap, ◌∙◌, arith}
use Rattle.words.specs.Parts.{region}
use Rattle.model.specs.Layout.{nodes_place, nodes_words, count_in}
use Rattle.state.specs.Known.{known}
use Rattle.names.specs.Named.{findable}
use Rattle.why.specs.Mapped.{told_bad, told_because}
use Rattle.why.specs.Rows.{row_reason}
use Rattle.why.specs.Settle.{table-reason}
use Rattle.why.specs.Returns.{return_none, row_fits}
use Rattle.why.proofs.reasons.why.Goals as goal

pub returns-then-not-well_formed : goal.returns-then-not-well_formed
returns-then-not-well_formed c =
    let a = c.args in
    told_bad a.number a.words.now a.arena.now (sym c.well_formed-2.ensures ∙ c.if-not-well_formed.true)

pub asked_place-requires : goal.asked_place-requires
asked_place-requires c =
    let a = c.args in
    findable a.words.now a.arena.now (known a.words.now a.arena.now (sym c.well_formed-2.ensures ∙ c.if-not-well_formed.false))

pub slice_bounds-sight_to-end : goal.slice_bounds-sight_to-end
slice_bounds-sight_to-end c =
    let a = c.args in
    let k = known a.words.now a.arena.now (sym c.well_formed-2.ensures ∙ c.if-not-well_formed.false) in
    let size = k.size in
    omega arith

pub sight_to-seen-requires : goal.sight_to-seen-requires
sight_to-seen-requires c =
    let a = c.args in
    let k = known a.words.now a.arena.now (sym c.well_formed-2.ensures ∙ c.if-not-well_formed.false) in
    let below = c.in-Some.ensures.below in
    row_fits a.words.now k.size k.few c.in-Some.at (omega arith)

pub reason_at-requires : goal.reason_at-requires
reason_at-requires c =
    let a = c.args in
    let k = known a.words.now a.arena.now (sym c.well_formed-2.ensures ∙ c.if-not-well_formed.false) in
    (k.size, (k.few, (c.in-Some.ensures.below, c.sight_to-seen.ensures)))

pub returns-in-Some : goal.returns-in-Some
returns-in-Some c =
    let a = c.args in
    let k = known a.words.now a.arena.now (sym c.well_formed-2.ensures ∙ c.if-not-well_formed.false) in
    told_because a.number a.words.now a.arena.now c.reason_at.result k.whole
    (c.reason_at.ensures
    ∙ ap (λ (n : ℕ). row_reason (region nodes_place nodes_words a.words.now) (count_in a.words.now) n) c.in-Some.ensures.place
    ∙ sym (table-reason a.words.now k.tree.root a.number))

pub returns-in-None : goal.returns-in-None
returns-in-None c =
    let a = c.args in
    let k = known a.words.now a.arena.now (sym c.well_formed-2.ensures ∙ c.if-not-well_formed.false) in
    told_because a.number a.words.now a.arena.now _ k.whole
    (return_none a.words.now k.few (count_in a.words.now) (omega arith)
    ∙ ap (λ (n : ℕ). row_reason (region nodes_place nodes_words a.words.now) (count_in a.words.now) n) c.in-None.ensures.place
    ∙ sym (table-reason a.words.now k.tree.root a.number))
