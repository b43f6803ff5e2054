use Prim.{tt}
use Rattle.definitions.specs.Naming.{run_next, naming_first, naming_next, naming_last}
use Rattle.definitions.specs.Files.{accepted_run}
use native.Mathlib.Omega.{arith}
use Rattle.definitions.proofs.named_slots.Goals as goal

pub loop-at-init : goal.loop-at-init
loop-at-init c =
    let a = c.args in
    naming_first a.table.now a.arena.now a.file.now (accepted_run a.file.now (λ i. (c.type_inv.file i).fits) c.requires.1)

pub name_at-requires : goal.name_at-requires
name_at-requires c = (run_next c.loop-at.invariant.run c.loop-at-test.true).here.name_inside

pub mark_named-marked-requires : goal.mark_named-marked-requires
mark_named-marked-requires c = (c.requires.0, c.loop-at.invariant.size)

pub definition_end-at-requires : goal.definition_end-at-requires
definition_end-at-requires c = tt

pub loop-at-smaller : goal.loop-at-smaller
loop-at-smaller c =
    let n = run_next c.loop-at.invariant.run c.loop-at-test.true in
    let end = c.definition_end-at.ensures n.first n.next n.here.read in
    let on = n.here.forward in
    let in-file = n.here.inside in
    omega arith

pub loop-at-preserved : goal.loop-at-preserved
loop-at-preserved c =
    let a = c.args in
    let m = c.loop-at.invariant in
    let n = run_next m.run c.loop-at-test.true in
    let end = c.definition_end-at.ensures n.first n.next n.here.read in
    rw end
    (naming_next a.table.now a.arena.now a.file.now c.loop-at.at c.loop-at.marks c.mark_named-marked.result m n
    c.name_at.result.now c.name_at.ensures c.mark_named-marked.ensures)

pub returns : goal.returns
returns c =
    let a = c.args in
    naming_last a.table.now a.arena.now a.file.now c.loop-at.at c.loop-at.marks c.loop-at.invariant (omega arith)
