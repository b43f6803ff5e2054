use mathlib.Core.Path.{◌≡◌, sym, ◌∙◌}
use native.Mathlib.Omega.{arith}
use lib.ListN.{get_or, get_or-eq_default}
use Rattle.store.specs.VersionWalkLaws.{version_length, search_turn, search_found, search_ends}
use Rattle.store.proofs.walk.version_from.Goals as goal

pub returns-else-store-from-eq-VERSION_TAG : goal.returns-else-store-from-eq-VERSION_TAG
returns-else-store-from-eq-VERSION_TAG c =
    let a = c.args in
    λ p. search_ends a.store.now a.at a.number p c.loop-from.from (c.loop-from.invariant.1 p) c.if-store-from-eq-VERSION_TAG.false

pub next_version-to-requires : goal.next_version-to-requires
next_version-to-requires c =
    ((c.loop-from.invariant.1 c.requires).left, c.if-store-from-eq-VERSION_TAG.true)

-- the number of the version here lies in the store
pub word_at-requires : goal.word_at-requires
word_at-requires c =
    let v = c.next_version-to.ensures (c.loop-from.invariant.1 c.requires).left in
    omega (arith, v.place, version_length v.version, v.rest.ahead.inside)

pub returns-then-word_at-number : goal.returns-then-word_at-number
returns-then-word_at-number c =
    let a = c.args in
    λ p.
    search_found a.store.now a.at a.number p c.loop-from.from c.next_version-to.result (c.loop-from.invariant.1 p) (c.next_version-to.ensures (c.loop-from.invariant.1 p).left)
    (sym c.word_at.ensures ∙ c.if-word_at-number.true)

pub loop-from-smaller : goal.loop-from-smaller
loop-from-smaller c =
    let v = c.next_version-to.ensures (c.loop-from.invariant.1 c.requires).left in
    omega (arith, v.place, version_length v.version)

pub loop-from-preserved : goal.loop-from-preserved
loop-from-preserved c =
    let a = c.args in (
      (c.next_version-to.ensures (c.loop-from.invariant.1 c.requires).left).rest.ahead.inside,
      λ p.
          search_turn a.store.now a.at a.number p c.loop-from.from c.next_version-to.result (c.loop-from.invariant.1 p) (c.next_version-to.ensures (c.loop-from.invariant.1 p).left)
          (λ e. c.if-word_at-number.false (c.word_at.ensures ∙ e)),
    )

pub returns-after-loop-from : goal.returns-after-loop-from
returns-after-loop-from c =
    let a = c.args in
    let s = a.store.now in
    let shut : get_or s c.loop-from.from 0 ≡ 0 = get_or-eq_default s 0 {n = c.loop-from.from} (omega arith) in
    λ p. search_ends s a.at a.number p c.loop-from.from (c.loop-from.invariant.1 p) (λ e. omega (arith, e))
