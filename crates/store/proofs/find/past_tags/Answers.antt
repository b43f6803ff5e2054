use mathlib.Core.Path.{◌≡◌}
use native.Mathlib.Omega.{arith}
use lib.ListN.{get_or, get_or-eq_default}
use Rattle.store.specs.AheadLaws.{walk_ends, walk_inside}
use Rattle.store.proofs.find.past_tags.Goals as goal

pub returns-else-lowest-store : goal.returns-else-lowest-store
returns-else-lowest-store c =
    let a = c.args in
    λ fs p. walk_ends a.lowest a.store.now a.at fs c.loop-end.end c.if-lowest-store.false (c.loop-end.invariant fs p)

pub past_field-end-requires : goal.past_field-end-requires
past_field-end-requires c =
    let some = c.requires.1 in
    walk_inside c.args.lowest c.args.store.now c.args.at some.fields c.loop-end.end (omega (arith, c.requires.0, c.if-lowest-store.true))
    (c.loop-end.invariant some.fields some.ahead)

pub returns-after-loop-end : goal.returns-after-loop-end
returns-after-loop-end c =
    let none : get_or c.args.store.now c.loop-end.end 0 ≡ 0 = get_or-eq_default c.args.store.now 0 c.loop-end-test.false in
    λ fs p. walk_ends c.args.lowest c.args.store.now c.args.at fs c.loop-end.end (omega (arith, none, c.requires.0)) (c.loop-end.invariant fs p)
