use Rattle.definitions.specs.Checking.{apart_turn, apart_end}
use Rattle.definitions.specs.Names.{name_on}
use Rattle.slots.specs.Slots.{slots_on, resident_on}
use Rattle.model.specs.Formed.{name_resident, names_apart}
use Rattle.words.specs.Choice.{pick, both}
use Prim.Native.Nat.{ℕ, ◌+◌, ◌<◌}
use mathlib.Core.Bool.{Bool, true, false, not}
use mathlib.Core.Path.{◌≡◌, sym, ap, ◌∙◌}
use mathlib.Core.List.{List}
use native.Mathlib.Omega.{arith}
use borrow.Author.Tests.{eq-eqb, ne_eqb}
use lib.ListN.{drop, get_or}
use Rattle.definitions.proofs.names_apart.Goals as goal
use Rattle.definitions.proofs.names_apart.Goals.{else-table-k-eq1-via-then-table-k-eq1+else-not-name_apart, else-table-k-eq1-via-else-table-k-eq1}

pub returns-then-not-name_apart : goal.returns-then-not-name_apart
returns-then-not-name_apart c =
    let a = c.args in
    let k = c.loop-k.k in
    let table = a.table.now in
    let arena = a.arena.now in
    let less : k < 32 = omega arith in
    let in-slot : resident_on table k ≡ true = eq-eqb (get_or table (32 + k) 0) 1 c.if-table-k-eq1.true in
    let test : not (name_resident (name_on table arena k) (drop (k + 1) (slots_on table arena))) ≡ false =
    ap (λ (n : List ℕ). not (name_resident n (drop (k + 1) (slots_on table arena)))) (sym c.slot_name.ensures) ∙ sym c.name_apart.ensures ∙ c.if-not-name_apart.true in
    sym (rw (in-slot, test) at (apart_turn table arena k less)) ∙ c.loop-k.invariant

pub loop-k-preserved : goal.loop-k-preserved
loop-k-preserved c =
    let a = c.args in
    let k = c.loop-k.k in
    let table = a.table.now in
    let arena = a.arena.now in
    let less : k < 32 = omega arith in
    let rest = names_apart (drop (k + 1) (slots_on table arena)) in
    let test : pick (resident_on table k) (not (name_resident (name_on table arena k) (drop (k + 1) (slots_on table arena)))) true ≡ true =
    elim c.else-table-k-eq1.branch [
      | else-table-k-eq1-via-then-table-k-eq1+else-not-name_apart case ↦ let in-slot : resident_on table k ≡ true = eq-eqb (get_or table (32 + k) 0) 1 case.if-table-k-eq1.true in
          rw in-slot (ap (λ (n : List ℕ). not (name_resident n (drop (k + 1) (slots_on table arena)))) (sym case.slot_name.ensures) ∙ sym case.name_apart.ensures ∙ case.if-not-name_apart.false)
      | else-table-k-eq1-via-else-table-k-eq1 case ↦ rw (ne_eqb (get_or table (32 + k) 0) 1 case.if-table-k-eq1.false)
    ] in
    sym (apart_turn table arena k less ∙ ap (λ (b : Bool). both b rest) test) ∙ c.loop-k.invariant

pub returns : goal.returns
returns c =
    let a = c.args in
    sym (apart_end a.table.now a.arena.now c.loop-k.k (omega arith)) ∙ c.loop-k.invariant
