-- `newsynth::rows::row_without` meets its contract: what is left out is the node's run.
use mathlib.Core.Path.{refl, sym, ap, ◌∙◌}
use native.Mathlib.Omega.{arith}
use Prim.Native.Nat.{◌+◌}
use Rattle.nodes.specs.PlaceLaws.{end_most}
use Rattle.nodes.specs.Sizes.{depth_at}
use Rattle.nodes.specs.Split.{cut_at}
use Rattle.nodes.specs.Formed.{free_row}
use Rattle.newsynth.proofs.rows.row_without.Goals as goal

pub subtree_end-end-requires : goal.subtree_end-end-requires
subtree_end-end-requires c = let p = c.requires in record { room = omega (arith, p.size, p.few); few = p.few; live = p.live }

pub free_row_without-requires : goal.free_row_without-requires
free_row_without-requires c =
    let a = c.args in
    let p = c.requires in
    let e = c.subtree_end-end.ensures in
    let most = end_most a.count a.nodes.now (depth_at a.nodes.now a.at) (a.at + 1) (omega (arith, p.live)) in
    (omega (arith, e), (omega (arith, e, most), record { room = omega (arith, p.size, p.few); few = p.few }))

pub returns : goal.returns
returns c =
    let a = c.args in
    let us = a.nodes.now in
    c.free_row_without.ensures ∙ ap free_row (sym (cut_at a.count us a.at c.requires.live (depth_at us a.at) c.subtree_end-end.result refl c.subtree_end-end.ensures))
