-- Laws of `Order`: the running order has no more numbers than the table has records.
use Rattle.std.specs.Prelude.{ℕ, suc, ◌+◌, ◌≤◌, Bool, true, false, List, [], ◌∷◌, length, leb}
use Rattle.std.proofs.Common.{arith}
use Rattle.words.specs.Choice.{pick}
use Rattle.nodes.specs.declared.Node.{Node}
use Rattle.nodes.specs.Place.{is_group}
use Rattle.nodes.specs.Order.{is_on, order_from}

pub order_most : (limit : ℕ) (l : List Node) → length (order_from limit l) ≤ length l
unfolding order_from
order_most limit [] = omega arith
order_most limit (r ∷ l) = go (leb r.depth limit) (is_on r) (is_group r) (order_most limit l) (order_most r.depth l) (order_most (r.depth + 1) l)
  where
    go : (u o g : Bool) → length (order_from limit l) ≤ length l → length (order_from r.depth l) ≤ length l → length (order_from (r.depth + 1) l) ≤ length l
        → length (pick u (pick o (pick g (order_from (r.depth + 1) l) (r.number ∷ order_from (r.depth + 1) l)) (order_from r.depth l)) (order_from limit l)) ≤ suc (length l)
    go true true true a b d = omega arith
    go true true false a b d = omega arith
    go true false g a b d = omega arith
    go false o g a b d = omega arith
