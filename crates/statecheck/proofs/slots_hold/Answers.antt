-- `statecheck::slots_hold` meets its contract.
use Prim.Native.Nat.{ℕ}
use mathlib.Core.Path.{subst, ◌∙◌}
use lib.ListN.{get_or}
use Rattle.definitions.specs.Holders.{HeldBy}
use Rattle.definitions.specs.Lent.{check_lent}
use Rattle.statecheck.specs.Parts.{nodes_of}
use Rattle.statecheck.proofs.slots_hold.Goals as goal

pub returns : goal.returns
returns c =
    let a = c.args in
    let tests = c.held_slots-held.result in
    let counted : HeldBy tests (nodes_of (get_or a.words.now 0 0) a.words.now) = subst (λ (n : ℕ). HeldBy tests (nodes_of n a.words.now)) c.wide-count.ensures c.held_slots-held.ensures in
    c.slots_formed.ensures ∙ check_lent a.words.now a.arena.now tests counted
