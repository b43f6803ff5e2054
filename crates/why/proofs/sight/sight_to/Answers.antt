use Rattle.std.proofs.Common.{◌≡◌, ℕ, subst, arith}
use Rattle.why.specs.Seen.{SeenBefore, seen_start}
use Rattle.why.proofs.sight.sight_to.Goals as goal

pub loop-i-init : goal.loop-i-init
loop-i-init c = seen_start c.args.nodes.now

pub see_row-seen-requires : goal.see_row-seen-requires
see_row-seen-requires c = (record { room = omega arith; few = omega arith }, c.loop-i.invariant)

pub returns : goal.returns
returns c =
    let end : c.loop-i.i ≡ c.args.to = omega arith in
    subst (λ (n : ℕ). SeenBefore c.args.nodes.now n c.loop-i.seen) end c.loop-i.invariant
