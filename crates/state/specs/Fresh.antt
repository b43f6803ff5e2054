-- A fresh engine's words and arena: their lengths, and the one node.
use Rattle.std.specs.Prelude.{ℕ, ◌≡◌, refl, [], ◌∷◌, length, replicate}
use Rattle.std.proofs.Common.{arith}
use Rattle.std.proofs.lemmas.List.{length-replicate}
use Rattle.nodes.specs.Table.{rows, encode}
use Rattle.model.specs.Layout.{words_length, arena_length}
use Rattle.model.specs.Engine.{decode}
use Rattle.model.specs.After.{root, behind_root, fresh_state, fresh_arena}

pub fresh-length : length fresh_state ≡ words_length
unfolding encode
fresh-length =
    let a : length (replicate {A = ℕ} behind_root 0) ≡ behind_root = length-replicate {A = ℕ} behind_root 0 in
    omega (arith, a)

pub arena-length : length fresh_arena ≡ arena_length
arena-length = length-replicate {A = ℕ} arena_length 0

pub fresh_nodes : (decode fresh_state fresh_arena).nodes ≡ root ∷ []
unfolding decode rows encode
fresh_nodes = refl
