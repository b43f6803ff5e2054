use Rattle.widening.specs.Moved.{Walking}
use Rattle.widening.proofs.pieces.widen_all.Given as goal

abbrev pub invariant-loop : goal.invariant-loop
invariant-loop g l = Walking (g.P.Piece.wide l.s) (g.P.Piece.past l.s) l.count l.initial.here l.initial.out l.counter l.here l.out
