use mathlib.Core.Path.{◌≡◌}
use native.Mathlib.Omega.{arith}
use lib.ListN.{get_or, get_or-eq_default}
use Rattle.store.specs.VersionWalkLaws.{version_length, count_turn, count_ends}
use Rattle.store.proofs.walk.count_versions.Goals as goal

pub loop-i-init : goal.loop-i-init
loop-i-init c = (c.requires.ahead.inside, omega arith, λ p. record { left = p; sum = omega arith })

pub returns-else-store-i-eq-VERSION_TAG : goal.returns-else-store-i-eq-VERSION_TAG
returns-else-store-i-eq-VERSION_TAG c =
    let a = c.args in
    λ p. count_ends a.store.now a.at p c.loop-i.i c.loop-i.count (c.loop-i.invariant.2 p) c.if-store-i-eq-VERSION_TAG.false

pub next_version-i-requires : goal.next_version-i-requires
next_version-i-requires c =
    ((c.loop-i.invariant.2 c.requires).left, c.if-store-i-eq-VERSION_TAG.true)

pub loop-i-smaller : goal.loop-i-smaller
loop-i-smaller c =
    let v = c.next_version-i.ensures (c.loop-i.invariant.2 c.requires).left in
    omega (arith, v.place, version_length v.version)

pub loop-i-preserved : goal.loop-i-preserved
loop-i-preserved c =
    let s = c.args.store.now in
    let v = c.next_version-i.ensures (c.loop-i.invariant.2 c.requires).left in (
      v.rest.ahead.inside,
      omega (arith, v.place, version_length v.version),
      λ p. count_turn s c.args.at p c.loop-i.i c.loop-i.count c.next_version-i.result (c.loop-i.invariant.2 p) (c.next_version-i.ensures (c.loop-i.invariant.2 p).left),
    )

pub returns-after-loop-i : goal.returns-after-loop-i
returns-after-loop-i c =
    let a = c.args in
    let s = a.store.now in
    let shut : get_or s c.loop-i.i 0 ≡ 0 = get_or-eq_default s 0 {n = c.loop-i.i} (omega arith) in
    λ p. count_ends s a.at p c.loop-i.i c.loop-i.count (c.loop-i.invariant.2 p) (λ e. omega (arith, e))
