use Rattle.std.specs.Prelude.{Bool}
use Rattle.std.proofs.Common.{sym, ap, ◌∙◌, length}
use Rattle.words.specs.Choice.{pick}
use Rattle.lists.specs.declared.Verdict.TheVariants.{Unfit, Fit}
use Rattle.lists.specs.Lent.{is_item}
use Rattle.lists.specs.Judging.{not_whole, judge_begins, judge_stops, judge_unlisted, judge_acts, judge_ends, no_list, a-list}
use Rattle.lists.specs.Walk.{tail_is}
use Rattle.lists.proofs.judged.judge.Goals as goal
use Rattle.lists.proofs.judged.judge.Goals.{in-Unlisted, in-Acts}

pub returns-then-items-ne0 : goal.returns-then-items-ne0
returns-then-items-ne0 c = not_whole c.args.items.now c.args.bytes.now c.if-items-ne0.true

pub loop-i-init : goal.loop-i-init
loop-i-init c = judge_begins c.args.items.now (length c.args.bytes.now)

pub loop-i-preserved : goal.loop-i-preserved
loop-i-preserved c =
    let a = c.args in
    let room = length a.bytes.now in
    let less = c.loop-i-test.true in
    let kind = rw tail_is at c.item_kind.ensures in
    elim c.match-item_kind.branch [
      | in-Unlisted w ↦ rw w.fit-is (judge_unlisted a.items.now room c.loop-i.i c.loop-i.fit c.loop-i.invariant less (sym kind ∙ w.in-Unlisted.is))
      | in-Acts w ↦ rw w.fit-is (judge_acts a.items.now room c.loop-i.i c.loop-i.fit c.loop-i.invariant less (sym kind ∙ w.in-Acts.is))
    ]

pub returns-in-NoItem : goal.returns-in-NoItem
returns-in-NoItem c =
    let a = c.args in
    let room = length a.bytes.now in
    let kind = rw tail_is at c.in-NoItem.ensures in
    no_list a.items.now a.bytes.now c.if-items-ne0.false (judge_stops a.items.now room c.loop-i.i c.loop-i.fit c.loop-i.invariant c.loop-i-test.true (ap is_item (sym kind)))

pub returns-then-fit : goal.returns-then-fit
returns-then-fit c =
    let a = c.args in
    let ended = a-list a.items.now a.bytes.now c.if-items-ne0.false c.loop-i.fit (judge_ends a.items.now (length a.bytes.now) c.loop-i.i c.loop-i.fit c.loop-i.invariant c.loop-i-test.false) in
    sym (ap (λ (b : Bool). pick b Fit Unfit) c.if-fit.true) ∙ ended

pub returns : goal.returns
returns c =
    let a = c.args in
    let ended = a-list a.items.now a.bytes.now c.if-items-ne0.false c.loop-i.fit (judge_ends a.items.now (length a.bytes.now) c.loop-i.i c.loop-i.fit c.loop-i.invariant c.loop-i-test.false) in
    sym (ap (λ (b : Bool). pick b Fit Unfit) c.if-fit.false) ∙ ended
