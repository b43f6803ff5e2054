use Rattle.std.proofs.Common.{sym, ◌∙◌, arith}
use Rattle.std.proofs.lemmas.Bool.{ne_eqb}
use Rattle.nodes.specs.Table.{rows}
use Rattle.order.specs.Same.{order_other, order_front}
use Rattle.order.proofs.same_order.Goals as goal

pub returns-then-many-fresh : goal.returns-then-many-fresh
returns-then-many-fresh c =
    let a = c.args in
    let many = c.running_order-fresh.ensures.many in
    c.same_numbers.ensures ∙ sym (order_front a.kept.now a.many (rows a.count a.nodes.now) (omega arith) (omega arith) c.running_order-fresh.result.numbers c.running_order-fresh.ensures.numbers)

pub returns-else-many-fresh : goal.returns-else-many-fresh
returns-else-many-fresh c =
    let a = c.args in
    let e = c.running_order-fresh.ensures.many in
    ne_eqb a.many c.running_order-fresh.result.length c.if-many-fresh.false
    ∙ sym (order_other a.kept.now a.many (rows a.count a.nodes.now) (omega arith) (omega arith) (λ same. c.if-many-fresh.false (same ∙ sym e)))
