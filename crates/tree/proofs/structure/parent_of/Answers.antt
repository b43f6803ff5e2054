use Prim.Native.Nat.{ℕ, ◌+◌, ◌*◌, ◌-◌}
use mathlib.Core.Path.{◌≡◌, sym, ap, ◌∙◌}
use native.Mathlib.Omega.{arith}
use borrow.Author.Tests.{lt-ltb, le-ltb}
use lib.ListN.{get_or}
use Rattle.nodes.specs.Table.{width, rows, depth_field}
use Rattle.tree.specs.Around.{along, above, along_start, along_back}
use Rattle.tree.proofs.structure.parent_of.Goals as goal

pub returns-then-nodes-i : goal.returns-then-nodes-i
returns-then-nodes-i c =
    λ (none : ℕ).
    let a = c.args in
    let us = a.nodes.now in
    let d = get_or us (width * a.at + depth_field) 0 in
    let step : along (above d) none (rows c.loop-i.i us) ≡ get_or us (width * (c.loop-i.i - 1)) 0 =
    rw (lt-ltb (get_or us (width * (c.loop-i.i - 1) + depth_field) 0) d c.if-nodes-i.true) at (along_back (above d) none c.loop-i.i us (omega arith)) in
    sym step ∙ c.loop-i.invariant none

pub loop-i-preserved : goal.loop-i-preserved
loop-i-preserved c =
    λ (none : ℕ).
    let a = c.args in
    let us = a.nodes.now in
    let d = get_or us (width * a.at + depth_field) 0 in
    let step : along (above d) none (rows c.loop-i.i us) ≡ along (above d) none (rows (c.loop-i.i - 1) us) =
    rw (le-ltb (get_or us (width * (c.loop-i.i - 1) + depth_field) 0) d c.if-nodes-i.false) at (along_back (above d) none c.loop-i.i us (omega arith)) in sym step ∙ c.loop-i.invariant none

pub returns : goal.returns
returns c =
    λ (none : ℕ).
    let a = c.args in
    let us = a.nodes.now in
    let d = get_or us (width * a.at + depth_field) 0 in
    let start : c.loop-i.i ≡ 0 = omega arith in
    sym (along_start (above d) none us) ∙ ap (λ (k : ℕ). along (above d) none (rows k us)) (sym start) ∙ c.loop-i.invariant none
