-- What the running order worked out afresh holds.
use Rattle.std.specs.Prelude.{◌≡◌, List, length}
use Rattle.nodes.specs.declared.Node.{Node}
use Rattle.nodes.specs.Order.{order}
use Rattle.order.specs.declared.Order.{Order}
use Rattle.order.specs.Order.{order_words}

pub record Kept (t : List Node) (r : Order) : Type 0 where
  pub numbers : r.numbers ≡ order_words t
  pub many : r.length ≡ length (order t)
