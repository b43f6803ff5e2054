-- `why::sight::see_row` meets its contract: a law for each return.
use native.Mathlib.Omega.{arith}
use Rattle.why.specs.Seen.{seen_under, seen-off, seen_group, seen_synth}
use Rattle.why.proofs.sight.see_row.Goals as goal

pub returns-then-so-depth : goal.returns-then-so-depth
returns-then-so-depth c =
    let a = c.args in
    seen_under a.nodes.now a.i a.so c.requires.1 c.if-so-depth.true

pub returns-then-run-ne1 : goal.returns-then-run-ne1
returns-then-run-ne1 c =
    let a = c.args in
    seen-off a.nodes.now a.i a.so c.requires.1 (omega arith) c.if-run-ne1.true

pub returns-then-slot-eq-GROUP : goal.returns-then-slot-eq-GROUP
returns-then-slot-eq-GROUP c =
    let a = c.args in
    seen_group a.nodes.now a.i a.so c.requires.1 (omega arith) (omega arith) c.if-slot-eq-GROUP.true

pub returns : goal.returns
returns c =
    let a = c.args in
    seen_synth a.nodes.now a.i a.so c.requires.1 (omega arith) (omega arith) c.if-slot-eq-GROUP.false
