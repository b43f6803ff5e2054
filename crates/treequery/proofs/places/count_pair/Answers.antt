use native.Mathlib.Omega.{arith}
use Rattle.treequery.specs.Places.{pair_size}
use Rattle.treequery.proofs.places.count_pair.Goals as goal

pub returns : goal.returns
returns c =
    λ m n.
    let size = pair_size m n in
    record { moved = record { tag = omega arith; byte = omega arith }; fair = omega arith }
