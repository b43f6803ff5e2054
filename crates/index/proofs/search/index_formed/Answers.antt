use Prim.Native.Nat.{◌*◌, ◌<◌}
use native.Mathlib.Omega.{arith}
use Rattle.std.proofs.Common.{length-take-le}
use Rattle.nodes.specs.Table.{width}
use Rattle.index.specs.Checks.{rises_first, rises_past, rises_low, rises_on, rises_end}
use Rattle.index.proofs.search.index_formed.Goals as goal

pub loop-entry-init : goal.loop-entry-init
loop-entry-init c =
    let a = c.args in
    (omega arith, rises_first a.nodes.now a.index.now a.count c.requires)

pub returns-then-count-place : goal.returns-then-count-place
returns-then-count-place c =
    let a = c.args in
    let long = length-take-le a.count a.index.now c.requires.entries in
    rises_past a.nodes.now a.index.now a.count c.requires c.loop-entry.least c.loop-entry.entry-index c.wide-place.result (omega arith) c.wide-place.ensures c.loop-entry.invariant.1 (omega arith)

pub returns-then-number-least : goal.returns-then-number-least
returns-then-number-least c =
    let a = c.args in
    let long = length-take-le a.count a.index.now c.requires.entries in
    rises_low a.nodes.now a.index.now a.count c.requires c.loop-entry.least c.loop-entry.entry-index c.wide-place.result (omega arith) c.wide-place.ensures c.loop-entry.invariant.1 (omega arith) c.wide-number.result c.wide-number.ensures (omega arith)

pub overflow_add-least : goal.overflow_add-least
overflow_add-least c =
    let number : c.wide-number.result < 4294967296 = omega (arith, c.type_inv.nodes (width * c.wide-place.result)) in
    omega arith

pub loop-entry-preserved : goal.loop-entry-preserved
loop-entry-preserved c =
    let a = c.args in
    let long = length-take-le a.count a.index.now c.requires.entries in
    let number : c.wide-number.result < 4294967296 = omega (arith, c.type_inv.nodes (width * c.wide-place.result)) in
    (omega arith, rises_on a.nodes.now a.index.now a.count c.requires c.loop-entry.least c.loop-entry.entry-index c.wide-place.result (omega arith) c.wide-place.ensures c.loop-entry.invariant.1 (omega arith) c.wide-number.result c.wide-number.ensures (omega arith))

pub returns : goal.returns
returns c =
    let a = c.args in
    let long = length-take-le a.count a.index.now c.requires.entries in
    rises_end a.nodes.now a.index.now a.count c.requires c.loop-entry.least c.loop-entry.entry-index (omega arith) c.loop-entry.invariant.1
