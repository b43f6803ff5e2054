-- `steps::commands::step` meets its contract: each kind's step is what the door asks.
use Rattle.std.proofs.lemmas.Result.{err_from_is_err_and}
use Rattle.state.specs.Known.{known}
use Rattle.state.specs.Does.{definitions_do, tree_does, controls_do, buses_do, query_does}
use Rattle.steps.proofs.commands.step.Goals as goal

pub definition_step-requires : goal.definition_step-requires
definition_step-requires c = known c.args.words.now c.args.arena.now c.requires

pub returns-in_err-definition_step-in-Definitions : goal.returns-in_err-definition_step-in-Definitions
returns-in_err-definition_step-in-Definitions c =
    let a = c.args in
    let lent = c.type_inv.bytes in
    let kept = c.slice_known-2-1.given in
    let p = err_from_is_err_and c.from_residual.result c.from_residual.ensures.1 in
    rw (p.1, p.2, c.in-Definitions.is) (definitions_do a.bytes.now a.words.now a.arena.now a.reply.now _ (λ i. (lent i).fits) (λ i. (kept i).fits) c.in-Definitions.of _ _ c.requires c.in_err-definition_step-in-Definitions.ensures)

pub returns-in_ok-definition_step-in-Definitions : goal.returns-in_ok-definition_step-in-Definitions
returns-in_ok-definition_step-in-Definitions c =
    let a = c.args in
    let lent = c.type_inv.bytes in
    let kept = c.slice_known-2-1.given in
    rw c.in-Definitions.is (definitions_do a.bytes.now a.words.now a.arena.now a.reply.now _ (λ i. (lent i).fits) (λ i. (kept i).fits) c.in-Definitions.of _ _ c.requires c.in_ok-definition_step-in-Definitions.ensures)

pub tree_step-requires : goal.tree_step-requires
tree_step-requires c = known c.args.words.now c.args.arena.now c.requires

pub returns-in_err-tree_step-in-Tree : goal.returns-in_err-tree_step-in-Tree
returns-in_err-tree_step-in-Tree c =
    let a = c.args in
    let lent = c.type_inv.bytes in
    let kept = c.slice_known-2-1.given in
    let p = err_from_is_err_and c.from_residual-in_err-tree_step-in-Tree.result c.from_residual-in_err-tree_step-in-Tree.ensures.1 in
    rw (p.1, p.2, c.in-Tree.is) (tree_does a.bytes.now a.words.now a.arena.now a.reply.now _ (λ i. (lent i).fits) (λ i. (kept i).fits) c.in-Tree.of _ c.requires c.in_err-tree_step-in-Tree.ensures)

pub returns-in_ok-tree_step-in-Tree : goal.returns-in_ok-tree_step-in-Tree
returns-in_ok-tree_step-in-Tree c =
    let a = c.args in
    let lent = c.type_inv.bytes in
    let kept = c.slice_known-2-1.given in
    rw c.in-Tree.is (tree_does a.bytes.now a.words.now a.arena.now a.reply.now _ (λ i. (lent i).fits) (λ i. (kept i).fits) c.in-Tree.of _ c.requires c.in_ok-tree_step-in-Tree.ensures)

pub control_step-requires : goal.control_step-requires
control_step-requires c = known c.args.words.now c.args.arena.now c.requires

pub returns-in_err-control_step-in-Controls : goal.returns-in_err-control_step-in-Controls
returns-in_err-control_step-in-Controls c =
    let a = c.args in
    let lent = c.type_inv.bytes in
    let kept = c.slice_known-2-1.given in
    let p = err_from_is_err_and c.from_residual-in_err-control_step-in-Controls.result c.from_residual-in_err-control_step-in-Controls.ensures.1 in
    rw (p.1, p.2, c.in-Controls.is) (controls_do a.bytes.now a.words.now a.arena.now a.reply.now _ (λ i. (lent i).fits) (λ i. (kept i).fits) c.in-Controls.of _ c.requires c.in_err-control_step-in-Controls.ensures)

pub returns-in_ok-control_step-in-Controls : goal.returns-in_ok-control_step-in-Controls
returns-in_ok-control_step-in-Controls c =
    let a = c.args in
    let lent = c.type_inv.bytes in
    let kept = c.slice_known-2-1.given in
    rw c.in-Controls.is (controls_do a.bytes.now a.words.now a.arena.now a.reply.now _ (λ i. (lent i).fits) (λ i. (kept i).fits) c.in-Controls.of _ c.requires c.in_ok-control_step-in-Controls.ensures)

pub bus_step-requires : goal.bus_step-requires
bus_step-requires c = (known c.args.words.now c.args.arena.now c.requires).size

pub returns-in_err-bus_step-in-Buses : goal.returns-in_err-bus_step-in-Buses
returns-in_err-bus_step-in-Buses c =
    let a = c.args in
    let lent = c.type_inv.bytes in
    let kept = c.slice_known-2-1.given in
    let p = err_from_is_err_and c.from_residual-in_err-bus_step-in-Buses.result c.from_residual-in_err-bus_step-in-Buses.ensures.1 in
    rw (p.1, p.2, c.in-Buses.is) (buses_do a.bytes.now a.words.now a.arena.now a.reply.now _ (λ i. (lent i).fits) (λ i. (kept i).fits) c.in-Buses.of _ c.requires (c.in_err-bus_step-in-Buses.ensures a.bytes.now a.arena.now))

pub returns-in_ok-bus_step-in-Buses : goal.returns-in_ok-bus_step-in-Buses
returns-in_ok-bus_step-in-Buses c =
    let a = c.args in
    let lent = c.type_inv.bytes in
    let kept = c.slice_known-2-1.given in
    rw c.in-Buses.is (buses_do a.bytes.now a.words.now a.arena.now a.reply.now _ (λ i. (lent i).fits) (λ i. (kept i).fits) c.in-Buses.of _ c.requires (c.in_ok-bus_step-in-Buses.ensures a.bytes.now a.arena.now))

pub query_step-requires : goal.query_step-requires
query_step-requires c = known c.args.words.now c.args.arena.now c.requires

pub returns-in_err-size-in-Query : goal.returns-in_err-size-in-Query
returns-in_err-size-in-Query c =
    let a = c.args in
    let lent = c.type_inv.bytes in
    let kept = c.slice_known-2-1.given in
    let p = err_from_is_err_and c.from_residual-in_err-size-in-Query.result c.from_residual-in_err-size-in-Query.ensures.1 in
    rw (p.1, p.2, c.in-Query.is) (query_does a.bytes.now a.words.now a.arena.now a.reply.now _ (λ i. (lent i).fits) (λ i. (kept i).fits) c.in-Query.of _ c.requires c.in_err-size-in-Query.ensures)

pub returns-in_ok-size-in-Query : goal.returns-in_ok-size-in-Query
returns-in_ok-size-in-Query c =
    let a = c.args in
    let lent = c.type_inv.bytes in
    let kept = c.slice_known-2-1.given in
    rw c.in-Query.is (query_does a.bytes.now a.words.now a.arena.now a.reply.now _ (λ i. (lent i).fits) (λ i. (kept i).fits) c.in-Query.of _ c.requires c.in_ok-size-in-Query.ensures)
