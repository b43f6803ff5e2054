use Rattle.model.specs.Engine as engine
use Rattle.slots.specs.Slots.{resident_on, slots_on}
use Rattle.words.specs.Choice.{pick, either}
use Rattle.definitions.specs.Slots.{free_turn, free_end, slot_there, slot_none}
use Rattle.definitions.specs.Holders.{holders, held-holders}
use Rattle.model.specs.Effects.{free_from}
use Prim.Native.Nat.{◌+◌}
use mathlib.Core.Bool.{Bool, true, false}
use mathlib.Core.Path.{◌≡◌, refl, sym, ap, ◌∙◌}
use native.Mathlib.Omega.{arith}
use borrow.Author.Tests.{eq-eqb, ne_eqb}
use lib.ListN.{drop, get_or}
use Rattle.definitions.proofs.lowest_free.Goals as goal
use Rattle.definitions.proofs.lowest_free.Goals.{else-table-k-ne1-via-then-table-k-ne1+else-not-held-k, else-table-k-ne1-via-else-table-k-ne1}

pub returns-then-not-held-k : goal.returns-then-not-held-k
returns-then-not-held-k c =
    λ arena.
    let k = c.loop-k.k in
    let table = c.args.table.now in
    let held = c.args.held in
    let free : get_or held k false ≡ false = c.if-not-held-k.true in
    let out : resident_on table k ≡ false = ne_eqb (get_or table (32 + k) 0) 1 c.if-table-k-ne1.true in
    let here : free_from 0 (slots_on table arena) (holders held) ≡ k = sym (c.loop-k.invariant arena) ∙ rw (out, held-holders held k, free) at (free_turn table arena (holders held) k (omega arith)) in
    rw here (sym (slot_there k (omega arith)))

pub loop-k-preserved : goal.loop-k-preserved
loop-k-preserved c =
    λ arena.
    let k = c.loop-k.k in
    let table = c.args.table.now in
    let held = c.args.held in
    let next = free_from (k + 1) (drop (k + 1) (slots_on table arena)) (holders held) in
    let taken : either (resident_on table k) (engine.held k (holders held)) ≡ true =
    elim c.else-table-k-ne1.branch [
      | else-table-k-ne1-via-then-table-k-ne1+else-not-held-k case ↦ rw (held-holders held k, case.if-not-held-k.false) (or_true (resident_on table k))
      | else-table-k-ne1-via-else-table-k-ne1 case ↦ rw (eq-eqb (get_or table (32 + k) 0) 1 case.if-table-k-ne1.false)
    ] in
    sym (free_turn table arena (holders held) k (omega arith) ∙ ap (λ (b : Bool). pick b next k) taken) ∙ c.loop-k.invariant arena
  where
    or_true : (b : Bool) → either b true ≡ true
    or_true true = refl
    or_true false = refl

pub returns : goal.returns
returns c =
    λ arena.
    let k = c.loop-k.k in
    let table = c.args.table.now in
    let h = holders c.args.held in
    let none : free_from 0 (slots_on table arena) h ≡ k = sym (c.loop-k.invariant arena) ∙ free_end table arena h k (omega arith) in
    rw none (sym (slot_none k (omega arith)))
