use Rattle.widening.specs.Moved.{walking_first, walking_room, walking_next, walking_last}
use Rattle.widening.proofs.pieces.widen_all.Goals as goal

pub loop-init : goal.loop-init
loop-init g c =
    let a = c.args in
    walking_first (g.P.Piece.wide a.s.now) (g.P.Piece.past a.s.now) a.count a.at a.out.now

pub widen-here-requires : goal.widen-here-requires
widen-here-requires g c = walking_room c.loop.invariant (g.met.P.Piece.onward c.args.s.now) c.loop-test.true c.requires

pub loop-preserved : goal.loop-preserved
loop-preserved g c = walking_next c.loop.invariant c.loop-test.true c.requires.fits c.widen-here.ensures

pub shape_of-out : goal.shape_of-out
shape_of-out g c = c.loop.invariant.same

pub returns : goal.returns
returns g c = walking_last c.loop.invariant c.loop-test.false
