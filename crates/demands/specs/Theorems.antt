-- The three demands, as `model` states them, proved.
use Rattle.std.specs.Prelude.{List}
use Rattle.model.specs.Chain.{State, Call, Chain, Fresh}
use Rattle.model.specs.Demands.{Demand1, Demand2, Demand3}
use Rattle.demands.specs.Ends as calls
use Rattle.demands.specs.SequenceTheorem as sequence
use Rattle.demands.specs.Loads as loads

pub demand1 : Demand1
demand1 = calls.demand1

pub demand2 : Demand2
demand2 = loads.demand2

pub demand3 : (s : State) → Fresh s → (cs : List Call) → Chain cs s → Demand3 cs s
demand3 = sequence.demand3
