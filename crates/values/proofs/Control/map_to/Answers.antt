use Rattle.values.proofs.Control.map_to.Goals as goal

pub returns : goal.returns
returns c = rw c.own_word.ensures at c.new.ensures
