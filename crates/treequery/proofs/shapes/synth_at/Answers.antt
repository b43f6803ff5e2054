use Prim.Native.Nat.{ℕ, ◌*◌}
use mathlib.Core.Path.{ap}
use native.Mathlib.Omega.{arith}
use lib.ListN.{get_or}
use Rattle.queries.specs.Held.{bounds}
use Rattle.treequery.proofs.shapes.synth_at.Goals as goal

pub node_row-row-requires : goal.node_row-row-requires
node_row-row-requires c =
    let bound = bounds c.args.words.now c.args.arena.now c.args.place c.requires.at in
    (bound.size, bound.place)

pub node_slot-first-requires : goal.node_slot-first-requires
node_slot-first-requires c =
    let bound = bounds c.args.words.now c.args.arena.now c.args.place c.requires.at in
    (bound.size, bound.place)

pub overflow_mul-first : goal.overflow_mul-first
overflow_mul-first c = omega (arith, c.node_slot-first.ensures, (bounds c.args.words.now c.args.arena.now c.args.place c.requires.at).slot c.requires.single)

pub offset_bounds-shapes-first : goal.offset_bounds-shapes-first
offset_bounds-shapes-first c = omega (arith, c.node_slot-first.ensures, (bounds c.args.words.now c.args.arena.now c.args.place c.requires.at).slot c.requires.single)

pub bounds-shapes-first : goal.bounds-shapes-first
bounds-shapes-first c = omega (arith, c.node_slot-first.ensures, (bounds c.args.words.now c.args.arena.now c.args.place c.requires.at).slot c.requires.single)

pub overflow_sub-result : goal.overflow_sub-result
overflow_sub-result c =
    omega (arith, ap (λ (k : ℕ). get_or c.args.shapes.now (33 * k) 0) c.node_slot-first.ensures, c.requires.shape.many)

pub returns : goal.returns
returns c =
    let slot = c.node_slot-first.ensures in
    record {
      row = c.node_row-row.ensures;
      first = ap (λ (k : ℕ). 33 * k) slot;
      many = omega (arith, ap (λ (k : ℕ). get_or c.args.shapes.now (33 * k) 0) slot, c.requires.shape.many);
    }
