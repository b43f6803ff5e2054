-- Laws of `Ops`.
use Rattle.std.specs.Prelude.{ℕ, zero, suc, ◌<◌, ◌≡◌, None}
use Rattle.std.proofs.Common.{sym, refl, arith}
use Rattle.std.proofs.Math.ListN.{get_or-eq_default}
use Rattle.calls.specs.Ops.{last, ops, command_of}

-- an op that is none of a command
pub op_past : (op a b c d e : ℕ) → (0 < op → last < op) → None ≡ command_of op a b c d e
unfolding command_of
op_past zero a b c d e h = refl
op_past (suc k) a b c d e h =
    let beyond = h (omega arith) in
    sym (get_or-eq_default (ops a b c d e) None {n = suc k} (omega arith))
