-- `tree::moves::move_to` meets its contract: the place without the run, and the move.
use mathlib.Core.Path.{ap₂, ap, ◌∙◌}
use Prim.Native.Nat.{ℕ, ◌+◌}
use native.Mathlib.Omega.{arith}
use Rattle.nodes.specs.Table.{rows, fill}
use Rattle.nodes.specs.PlaceLaws.{end_most}
use Rattle.nodes.specs.Sizes.{depth_at}
use Rattle.tree.specs.MoveRun.{moved_run, place_without, move_run_words}
use Rattle.tree.specs.Ends.{place_without-fits, run_least}
use Rattle.tree.proofs.moves.move_to.Goals as goal

pub move_run-requires : goal.move_run-requires
move_run-requires c =
    let a = c.args in
    let us = a.nodes.now in
    let p = c.requires.0 in
    let e = c.requires.1 in
    let most = end_most a.count us (depth_at us a.at) (a.at + 1) (omega arith) in
    let fit = place_without-fits a.at a.end a.place.at a.count (omega arith) (omega arith) (omega arith) (λ h. omega (arith, p.outside h)) in record {
      order = omega arith;
      few = omega arith;
      room = omega arith;
      inside = omega (arith, c.place_without-to.ensures);
      least = λ i h g. run_least a.count us a.at (omega arith) i h (omega arith);
      most = λ i h g. omega (arith, p.shallow i (omega arith));
    }

pub returns : goal.returns
returns c =
    let a = c.args in
    let us = a.nodes.now in
    let p = c.requires.0 in
    let e = c.requires.1 in
    let most = end_most a.count us (depth_at us a.at) (a.at + 1) (omega arith) in
    let fit = place_without-fits a.at a.end a.place.at a.count (omega arith) (omega arith) (omega arith) (λ h. omega (arith, p.outside h)) in
    c.move_run.ensures
    ∙ move_run_words us a.count a.at a.end c.place_without-to.result (depth_at us a.at) a.place.depth (omega arith) (omega arith) (omega (arith, c.place_without-to.ensures)) p.room
    ∙ ap₂ (λ (j k : ℕ). fill us (moved_run a.at j k (depth_at us a.at) a.place.depth (rows a.count us))) e (c.place_without-to.ensures ∙ ap (λ (j : ℕ). place_without a.at j a.place.at) e)
