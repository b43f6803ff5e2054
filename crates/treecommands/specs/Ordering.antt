-- The running order worked out afresh, as its region holds it.
use Rattle.std.specs.Prelude.{ℕ, ◌≤◌, ◌≡◌, List}
use Rattle.std.proofs.Common.{◌∙◌, arith}
use Rattle.nodes.specs.Table.{rows}
use Rattle.nodes.specs.TableLaws.{rows-length}
use Rattle.nodes.specs.Order.{order}
use Rattle.model.specs.Layout.{order_words, order_region}
use Rattle.order.specs.declared.Order.{Order}
use Rattle.order.specs.Kept.{Kept}
use Rattle.order.specs.Pad.{pad_is}
use Rattle.nodes.specs.OrderLaws.{order_most}

module _ (count : ℕ) (us : List ℕ) (r : Order) (k : Kept (rows count us) r) where
  pub order-region : r.numbers ≡ order_region (order (rows count us))
  order-region = k.numbers ∙ pad_is order_words (order (rows count us))

  pub order-short : r.length ≤ count
  order-short = omega (arith, k.many, order_most 0 (rows count us), rows-length count us)
