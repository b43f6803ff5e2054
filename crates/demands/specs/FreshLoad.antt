-- A fresh engine's slots: none is taken.
use Rattle.std.specs.Prelude.{ℕ, ◌<◌, false, ◌≡◌, refl, List, length}
use Rattle.std.proofs.Common.{ap, ◌∙◌, arith, ne_eqb}
use Rattle.format.specs.Bounds.{every}
use Rattle.nodes.specs.declared.Node.{Node}
use Rattle.nodes.specs.Table.{rows, encode}
use Rattle.model.specs.Layout.{slot_count}
use Rattle.model.specs.Engine.{slots_from, decode, held}
use Rattle.model.specs.Checks.{staying}
use Rattle.model.specs.After.{fresh_state, fresh_arena}
use Rattle.state.specs.Fresh.{fresh_nodes}
use Rattle.definitions.specs.Exported.{AllOut}

pub fresh_many : length (decode fresh_state fresh_arena).slots ≡ slot_count
unfolding decode slots_from encode
fresh_many = refl

pub fresh_out : AllOut (decode fresh_state fresh_arena).slots
unfolding decode slots_from encode every
fresh_out = refl

pub fresh_idle : (k : ℕ) → k < slot_count → held k (decode fresh_state fresh_arena).nodes ≡ false
unfolding held
fresh_idle k h = ap (λ (t : List Node). held k t) fresh_nodes ∙ rw (ne_eqb 32 k (λ e. omega arith))

pub fresh-staying : (names : List (List ℕ)) → staying 0 names (decode fresh_state fresh_arena).slots (decode fresh_state fresh_arena).nodes ≡ 0
unfolding decode slots_from rows encode staying held
fresh-staying names = refl
