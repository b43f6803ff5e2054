use Prim.Native.Nat.{ℕ, ◌+◌, ◌*◌, ◌-◌}
use mathlib.Core.Path.{◌≡◌, sym, ap, ◌∙◌}
use native.Mathlib.Omega.{arith}
use borrow.Author.Tests.{lt-ltb, le-ltb, eq-eqb, ne_eqb}
use lib.ListN.{get_or}
use Rattle.nodes.specs.Table.{width, rows, depth_field}
use Rattle.tree.specs.Around.{along, beside_or, along_start, along_back}
use Rattle.tree.proofs.structure.previous_of.Goals as goal

pub returns-then-other-depth : goal.returns-then-other-depth
returns-then-other-depth c =
    λ (none : ℕ).
    let a = c.args in
    let us = a.nodes.now in
    let d = get_or us (width * a.at + depth_field) 0 in
    let step : along (beside_or none d) none (rows c.loop-i.i us) ≡ none =
    rw (lt-ltb (get_or us (width * (c.loop-i.i - 1) + depth_field) 0) d c.if-other-depth.true) at (along_back (beside_or none d) none c.loop-i.i us (omega arith)) in
    sym step ∙ c.loop-i.invariant none

pub returns-then-other-depth-2 : goal.returns-then-other-depth-2
returns-then-other-depth-2 c =
    λ (none : ℕ).
    let a = c.args in
    let us = a.nodes.now in
    let d = get_or us (width * a.at + depth_field) 0 in
    let other = get_or us (width * (c.loop-i.i - 1) + depth_field) 0 in
    let step : along (beside_or none d) none (rows c.loop-i.i us) ≡ get_or us (width * (c.loop-i.i - 1)) 0 =
    rw (le-ltb other d (omega arith), eq-eqb other d c.if-other-depth-2.true) at (along_back (beside_or none d) none c.loop-i.i us (omega arith)) in
    sym step ∙ c.loop-i.invariant none

pub loop-i-preserved : goal.loop-i-preserved
loop-i-preserved c =
    λ (none : ℕ).
    let a = c.args in
    let us = a.nodes.now in
    let d = get_or us (width * a.at + depth_field) 0 in
    let other = get_or us (width * (c.loop-i.i - 1) + depth_field) 0 in
    let step : along (beside_or none d) none (rows c.loop-i.i us) ≡ along (beside_or none d) none (rows (c.loop-i.i - 1) us) =
    rw (le-ltb other d (omega arith), ne_eqb other d c.if-other-depth-2.false) at (along_back (beside_or none d) none c.loop-i.i us (omega arith)) in sym step ∙ c.loop-i.invariant none

pub returns : goal.returns
returns c =
    λ (none : ℕ).
    let a = c.args in
    let us = a.nodes.now in
    let d = get_or us (width * a.at + depth_field) 0 in
    let start : c.loop-i.i ≡ 0 = omega arith in
    sym (along_start (beside_or none d) none us) ∙ ap (λ (k : ℕ). along (beside_or none d) none (rows k us)) (sym start) ∙ c.loop-i.invariant none
