use Prim.Native.Nat.{◌<◌}
use mathlib.Core.Path.{sym, ◌∙◌}
use native.Mathlib.Omega.{arith}
use lib.ListN.{get_or, get_or-eq_default}
use Rattle.store.specs.ReadingLaws.{store_stands}
use Rattle.store.specs.FindLaws.{left_starts, next_entry, no_entry, entry_found, entry_passed, entry_takes, entry_ahead, entry_inside}
use Rattle.store.proofs.find.find_entry.Goals as goal

pub loop-at-init : goal.loop-at-init
loop-at-init c =
    left_starts c.args.name.now c.args.store.now (store_stands c.args.store.now (λ i. (c.type_inv.store i).fits) c.requires)

pub returns-else-store-at-ne0 : goal.returns-else-store-at-ne0
returns-else-store-at-ne0 c =
    let a = c.args in
    record {
      stands = store_stands a.store.now (λ i. (c.type_inv.store i).fits) c.requires;
      found =
          no_entry a.name.now a.store.now c.loop-at.at c.if-store-at-ne0.false c.loop-at.invariant;
    }

pub holds_name-requires : goal.holds_name-requires
holds_name-requires c =
    let a = c.args in
    let opens : 0 < get_or a.store.now c.loop-at.at 0 = omega (arith, c.if-store-at-ne0.true) in
    entry_inside a.name.now a.store.now c.loop-at.at (next_entry a.name.now a.store.now c.loop-at.at opens c.loop-at.invariant)

pub returns-then-holds_name : goal.returns-then-holds_name
returns-then-holds_name c =
    let a = c.args in
    record {
      stands = store_stands a.store.now (λ i. (c.type_inv.store i).fits) c.requires;
      found =
          let opens : 0 < get_or a.store.now c.loop-at.at 0 = omega (arith, c.if-store-at-ne0.true) in
          entry_found a.name.now a.store.now c.loop-at.at (next_entry a.name.now a.store.now c.loop-at.at opens c.loop-at.invariant)
          (sym c.holds_name.ensures ∙ c.if-holds_name.true);
    }

pub past_entry-at-requires : goal.past_entry-at-requires
past_entry-at-requires c =
    let a = c.args in
    let opens : 0 < get_or a.store.now c.loop-at.at 0 = omega (arith, c.if-store-at-ne0.true) in
    entry_ahead a.name.now a.store.now c.loop-at.at (next_entry a.name.now a.store.now c.loop-at.at opens c.loop-at.invariant)

pub loop-at-smaller : goal.loop-at-smaller
loop-at-smaller c =
    let a = c.args in
    let opens : 0 < get_or a.store.now c.loop-at.at 0 = omega (arith, c.if-store-at-ne0.true) in
    omega (
      arith,
      entry_takes a.name.now a.store.now c.loop-at.at (next_entry a.name.now a.store.now c.loop-at.at opens c.loop-at.invariant)
          c.past_entry-at.result c.past_entry-at.ensures,
    )

pub loop-at-preserved : goal.loop-at-preserved
loop-at-preserved c =
    let a = c.args in
    let opens : 0 < get_or a.store.now c.loop-at.at 0 = omega (arith, c.if-store-at-ne0.true) in
    entry_passed a.name.now a.store.now c.loop-at.at (next_entry a.name.now a.store.now c.loop-at.at opens c.loop-at.invariant)
    c.past_entry-at.result (sym c.holds_name.ensures ∙ c.if-holds_name.false) c.past_entry-at.ensures

pub returns-after-loop-at : goal.returns-after-loop-at
returns-after-loop-at c =
    let a = c.args in
    record {
      stands = store_stands a.store.now (λ i. (c.type_inv.store i).fits) c.requires;
      found =
          no_entry a.name.now a.store.now c.loop-at.at (get_or-eq_default a.store.now 0 c.loop-at-test.false) c.loop-at.invariant;
    }
