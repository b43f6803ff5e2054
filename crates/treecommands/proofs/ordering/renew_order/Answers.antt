-- `treecommands::ordering::renew_order` meets its contract: the order region holds the order as it was worked out.
use Prim.Native.Nat.{ℕ}
use mathlib.Core.Path.{ap, ◌∙◌}
use mathlib.Core.List.{List}
use native.Mathlib.Omega.{arith}
use Rattle.words.specs.Parts.{put}
use Rattle.model.specs.Layout.{order_place, order_words, node_words}
use Rattle.treecommands.specs.Ordering.{order-region, order-short}
use Rattle.treecommands.proofs.ordering.renew_order.Goals as goal

pub overflow_cast-result : goal.overflow_cast-result
overflow_cast-result c =
    omega (arith, order-short c.args.count (node_words c.args.words.now) c.running_order-fresh.result c.running_order-fresh.ensures, c.requires.1)

pub returns : goal.returns
returns c =
    let a = c.args in (
      ap (λ (l : List ℕ). put order_place order_words l a.words.now)
          (c.write_order.ensures ∙ order-region a.count (node_words a.words.now) c.running_order-fresh.result c.running_order-fresh.ensures),
      c.running_order-fresh.ensures.many,
    )
