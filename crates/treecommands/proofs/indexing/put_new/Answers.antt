-- `treecommands::indexing::put_new` meets its contract: the entry goes to its spot.
use Prim.Native.Nat.{ℕ, ◌*◌}
use mathlib.Core.Path.{ap, ◌∙◌}
use mathlib.Core.List.{List}
use native.Mathlib.Omega.{arith}
use lib.ListN.{get_or}
use Rattle.words.specs.Parts.{put}
use Rattle.reindex.specs.Spot.{spot_near, put_in_words}
use Rattle.model.specs.Layout.{index_place, index_words, node_words, entries_in}
use Rattle.nodes.specs.Table.{width}
use Rattle.treecommands.proofs.indexing.put_new.Goals as goal

pub put_entry-requires : goal.put_entry-requires
put_entry-requires c =
    let a = c.args in
    let ws = a.words.now in
    let reads = c.requires.1.0 in
    let near = spot_near (node_words ws) (entries_in ws) a.count (get_or (node_words ws) (width * a.at) 0) reads in
    (omega (arith, c.spot_of-spot.ensures, near), (reads.entries, omega (arith, c.requires.1.1, reads.few)))

pub returns : goal.returns
returns c =
    let a = c.args in
    let ws = a.words.now in
    ap (λ (l : List ℕ). put index_place index_words l ws)
    (c.put_entry.ensures ∙ put_in_words (node_words ws) (entries_in ws) a.count a.at c.spot_of-spot.result c.requires.1.1 c.spot_of-spot.ensures)
