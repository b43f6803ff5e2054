use Rattle.values.proofs.Control.from_words.Goals as goal

pub returns : goal.returns
returns c = rw c.mapping_of.ensures at c.new.ensures
