use Rattle.std.specs.Prelude.{Some, None}
use Rattle.std.proofs.lemmas.Result.{err_from_is_err_and}
use mathlib.Core.Path.{◌≡◌, refl}
use native.Mathlib.Omega.{arith}
use lib.ListN.{drop}
use Rattle.refusals.specs.declared.Refusal.TheVariants.{NoVersion}
use Rattle.tagged.specs.Fields.{size_in}
use Rattle.store.specs.Places.{VersionStands}
use Rattle.settings.specs.Recalled.{no_version, set_ends, next_long, next_inside, set_next}
use Rattle.settings.proofs.recalling.recall_version.Goals as goal

pub returns-in_err-start : goal.returns-in_err-start
returns-in_err-start c =
    let a = c.args in
    let p = err_from_is_err_and c.from_residual.result c.from_residual.ensures.1 in
    let gone : c.version_place.result ≡ None = grind arith in
    let why : c.in_err-start.field-0.0 ≡ NoVersion = grind arith in
    rw (p.1, p.2, why) (no_version a.name.now a.number a.node a.store.now a.words.now a.arena.now (rw gone at c.version_place.ensures))

pub size_at-size-requires : goal.size_at-size-requires
size_at-size-requires c =
    let s = c.args.store.now in
    omega (arith, next_inside _ _ _ s _ _ _ c.loop-at.at _ c.loop-at.invariant c.loop-at-test.true (size_in (drop c.loop-at.at s)) refl)

pub set_at-requires : goal.set_at-requires
set_at-requires c =
    let now = c.loop-at.invariant in
    let less = c.loop-at-test.true in
    let size = c.size_at-size.ensures in
    (next_long _ _ _ _ _ _ _ _ _ now less _ size, (next_inside _ _ _ _ _ _ _ _ _ now less _ size, now.whole))

pub loop-at-preserved : goal.loop-at-preserved
loop-at-preserved c = set_next _ _ _ _ _ _ _ _ _ c.loop-at.invariant c.loop-at-test.true _ c.size_at-size.ensures _ c.set_at.ensures

pub returns : goal.returns
returns c =
    let a = c.args in
    let there : c.version_place.result ≡ Some (c.in_ok-start.start, c.in_ok-start.end) = grind arith in
    let stands : VersionStands a.name.now a.number a.store.now c.in_ok-start.start c.in_ok-start.end = rw there at c.version_place.ensures in
    set_ends _ _ _ _ _ _ _ _ stands _ _ c.loop-at.invariant c.loop-at-test.false
