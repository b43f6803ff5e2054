-- `reindex::spot::put_entry` meets its contract: one law of the words.
use Prim.Native.Nat.{ℕ}
use mathlib.Core.Path.{ap, ◌∙◌}
use mathlib.Core.List.{List}
use native.Mathlib.Omega.{arith}
use lib.ListN.{set}
use Rattle.reindex.specs.Spot.{put_words}
use Rattle.reindex.proofs.spot.put_entry.Goals as goal

pub returns : goal.returns
returns c =
    let a = c.args in
    ap (λ (l : List ℕ). set l a.spot a.place) c.copy_within.ensures.after
    ∙ put_words a.index.now a.count a.spot a.place (omega arith) (omega arith)
