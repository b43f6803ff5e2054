use Prim.Native.Nat.{ℕ, ◌+◌, ◌*◌, ◌-◌, ◌≤◌}
use mathlib.Core.Path.{◌≡◌, ap, ◌∙◌}
use mathlib.Core.List.{List}
use native.Mathlib.Omega.{arith}
use lib.ListN.{length, get_or, set}
use Rattle.nodes.specs.Table.{width, depth_field}
use Rattle.tree.specs.Depths.{releveled, releveled_start, releveled_turn, depth_read}
use Rattle.tree.proofs.moves.set_depths.Goals as goal

-- a depth that is read is the one that was there
read : (old new from i : ℕ) (us now : List ℕ) → now ≡ releveled old new us from i → from ≤ i → width * i + 5 ≤ length us → get_or now (width * i + depth_field) 0 ≡ get_or us (width * i + depth_field) 0
read old new from i us now e h inside = ap (λ (l : List ℕ). get_or l (width * i + depth_field) 0) e ∙ depth_read old new us from i h inside

pub loop-i-init : goal.loop-i-init
loop-i-init c = releveled_start c.args.old c.args.new c.args.nodes.now c.args.from

pub overflow_sub-nodes : goal.overflow_sub-nodes
overflow_sub-nodes c =
    let a = c.args in
    let i = c.loop-i.i in
    omega (arith, read a.old a.new a.from i a.nodes.now c.loop-i.nodes c.loop-i.invariant (omega arith) (omega arith), c.requires.least i (omega arith) (omega arith))

pub overflow_add-nodes : goal.overflow_add-nodes
overflow_add-nodes c =
    let a = c.args in
    let i = c.loop-i.i in
    omega (arith, read a.old a.new a.from i a.nodes.now c.loop-i.nodes c.loop-i.invariant (omega arith) (omega arith), c.requires.most i (omega arith) (omega arith))

pub loop-i-preserved : goal.loop-i-preserved
loop-i-preserved c =
    let a = c.args in
    let us = a.nodes.now in
    let i = c.loop-i.i in
    let inv = c.loop-i.invariant in
    ap (λ (v : ℕ). set c.loop-i.nodes (width * i + depth_field) (v - a.old + a.new)) (read a.old a.new a.from i us c.loop-i.nodes inv (omega arith) (omega arith))
    ∙ ap (λ (l : List ℕ). set l (width * i + depth_field) (get_or us (width * i + depth_field) 0 - a.old + a.new)) inv
    ∙ releveled_turn a.old a.new us a.from i (omega arith) (omega arith)
