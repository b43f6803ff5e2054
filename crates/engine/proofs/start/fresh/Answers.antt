-- `engine::fresh` meets its contract.
use native.Mathlib.Omega.{arith}
use Rattle.engine.specs.Fresh.{refused_size, refused_room, made}
use Rattle.engine.proofs.start.fresh.Goals as goal

pub returns-then-words-ne-WORDS : goal.returns-then-words-ne-WORDS
returns-then-words-ne-WORDS c =
    let a = c.args in
    refused_size a.words.now a.arena.now c.if-words-ne-WORDS.true

pub returns-then-arena-ne-ARENA : goal.returns-then-arena-ne-ARENA
returns-then-arena-ne-ARENA c =
    let a = c.args in
    refused_room a.words.now a.arena.now (omega arith) c.if-arena-ne-ARENA.true

pub returns : goal.returns
returns c =
    let a = c.args in
    made a.words.now a.arena.now c.fresh_words.new.words c.zero_bytes.new.arena (omega arith) (omega arith) c.fresh_words.ensures c.zero_bytes.ensures
