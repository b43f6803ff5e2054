-- `engine::fresh_words` meets its contract.
use Prim.Native.Nat.{ℕ}
use mathlib.Core.Path.{ap, ◌∙◌}
use native.Mathlib.Omega.{arith}
use lib.ListN.{replicate, length-set}
use Rattle.engine.specs.Zeros.{fresh-words}
use Rattle.engine.proofs.start.fresh_words.Goals as goal

pub bounds-words-3 : goal.bounds-words-3
bounds-words-3 c = simp length-set (omega arith)

pub returns : goal.returns
returns c =
    fresh-words c.zero_words.new.words
    (c.zero_words.ensures ∙ ap (λ (n : ℕ). replicate n 0) c.requires)
