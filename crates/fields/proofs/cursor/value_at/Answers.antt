use Rattle.fields.proofs.cursor.value_at.Goals as goal

pub half_at-requires : goal.half_at-requires
half_at-requires c = rw c.in-Short.is at c.requires

pub word_at-requires : goal.word_at-requires
word_at-requires c = rw c.in-Long.is at c.requires

pub returns-in-Short : goal.returns-in-Short
returns-in-Short c = rw c.in-Short.is c.half_at.ensures

pub returns-in-Long : goal.returns-in-Long
returns-in-Long c = rw c.in-Long.is c.word_at.ensures
