use Rattle.definitions.specs.Checking.{formed_on, formed_turn, formed_end}
use Rattle.slots.specs.Slots.{lengths_on, slots_on}
use Rattle.definitions.specs.Holders.{holders, held-holders}
use Rattle.model.specs.Formed.{slots_formed}
use Rattle.words.specs.Choice.{both}
use Prim.Native.Nat.{◌+◌}
use mathlib.Core.Bool.{Bool, true, false}
use mathlib.Core.Path.{◌≡◌, sym, ap, ◌∙◌}
use native.Mathlib.Omega.{arith}
use lib.ListN.{drop}
use Rattle.definitions.proofs.each_formed.Goals as goal

pub returns-then-not-slot_formed : goal.returns-then-not-slot_formed
returns-then-not-slot_formed c =
    let a = c.args in
    let k = c.loop-k.k in
    let table = a.table.now in
    let arena = a.arena.now in
    let t = holders a.held in
    let bad : formed_on table arena t k ≡ false = sym (c.slot_formed.ensures t (sym (held-holders a.held k))) ∙ c.if-not-slot_formed.true in
    let rest = slots_formed (k + 1) (drop (k + 1) (lengths_on table)) (drop (k + 1) (slots_on table arena)) t in
    sym (formed_turn table arena t k (omega arith) ∙ ap (λ (b : Bool). both b rest) bad) ∙ c.loop-k.invariant

pub loop-k-preserved : goal.loop-k-preserved
loop-k-preserved c =
    let a = c.args in
    let k = c.loop-k.k in
    let table = a.table.now in
    let arena = a.arena.now in
    let t = holders a.held in
    let good : formed_on table arena t k ≡ true = sym (c.slot_formed.ensures t (sym (held-holders a.held k))) ∙ c.if-not-slot_formed.false in
    let rest = slots_formed (k + 1) (drop (k + 1) (lengths_on table)) (drop (k + 1) (slots_on table arena)) t in
    sym (formed_turn table arena t k (omega arith) ∙ ap (λ (b : Bool). both b rest) good) ∙ c.loop-k.invariant

pub returns : goal.returns
returns c =
    let a = c.args in
    sym (formed_end a.table.now a.arena.now (holders a.held) c.loop-k.k (omega arith)) ∙ c.loop-k.invariant
