-- What the commands here ask of the words: that they passed the state check, with some arena.
use Rattle.std.specs.Prelude.{ℕ, ◌+◌, ◌*◌, ◌≤◌, ◌<◌, true, ◌≡◌, List, length, get_or}
use Rattle.std.proofs.Common.{sym, arith}
use Rattle.words.specs.PartsLaws.{region-length}
use Rattle.nodes.specs.Table.{width}
use Rattle.nodes.specs.Formed.{most_nodes}
use Rattle.index.specs.Index.{indexed}
use Rattle.model.specs.Layout.{words_length, nodes_place, nodes_words, count_in, next_in, latest_in, nodes_in, index_in, record_in, node_words}
use Rattle.state.specs.Known.{Tree, Known}
use Rattle.names.specs.Records.{node_word}

pub record Ready (ws : List ℕ) : Type 0 where
  pub size : length ws ≡ words_length
  pub some : 1 ≤ count_in ws
  pub few : count_in ws ≤ most_nodes
  pub tree : Tree (next_in ws) (latest_in ws) (nodes_in ws)
  pub index : indexed (index_in ws) (nodes_in ws) ≡ true
  pub arena : List ℕ
  pub known : Known ws arena

pub ready : (ws bs : List ℕ) → Known ws bs → Ready ws
ready ws bs k = record { size = k.size; some = k.some; few = k.few; tree = k.tree; index = k.index; arena = bs; known = k }

pub words_long : (ws : List ℕ) → length ws ≡ words_length → length (node_words ws) ≡ nodes_words
words_long ws h = region-length nodes_place nodes_words ws (omega arith)

-- the number of the record at a place
pub node_number : (ws : List ℕ) (at : ℕ) → at < most_nodes → get_or ws (nodes_place + width * at) 0 ≡ (record_in ws at).number
node_number ws at h = sym (node_word ws (width * at) (omega arith))
