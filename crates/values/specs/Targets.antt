-- What a node argument names: paper 01, "Nodes".
use Rattle.std.specs.Prelude.{ℕ, zero, suc, ℤ, pos, negsuc}
use Rattle.std.specs.Int.{w32}
use Rattle.std.proofs.Common.{to_z}
use Rattle.values.specs.declared.NodeArgument.{NodeArgument}
use Rattle.values.specs.declared.Target.{Target}
use Rattle.values.specs.declared.Target.TheVariants.{Latest, Number, Reserved}

-- the argument that names a node by its number
abbrev pub argument : ℕ → NodeArgument
argument n = record { number = n }

-- the signed number of a 32-bit pattern, as the machine reads it
abbrev pub signed : ℕ → ℤ
signed p = to_z w32 p

-- "Where a command names an existing node, -1 means the latest synth made by `/s_new`"; "Below -1 no command can name a node"
abbrev pub named : ℤ → Target
named (pos n) = Number n
named (negsuc zero) = Latest
named (negsuc (suc n)) = Reserved

unfoldable pub target_of : ℕ → Target
target_of p = named (signed p)
