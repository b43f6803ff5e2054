-- The fields of the record at a place of the node table, by the words.
use Rattle.std.specs.Prelude.{ℕ, ◌+◌, ◌*◌, ◌<◌, ◌≡◌, List, get_or}
use Rattle.std.proofs.Common.{ap, ◌∙◌, arith, get_or-take, get_or-drop}
use Rattle.nodes.specs.Table.{width, slot_field}
use Rattle.nodes.specs.Formed.{most_nodes}
use Rattle.model.specs.Layout.{nodes_place, nodes_words, node_words, record_in}

-- a word of the node region, by its place in the words
pub node_word : (ws : List ℕ) (i : ℕ) → i < nodes_words → get_or (node_words ws) i 0 ≡ get_or ws (nodes_place + i) 0
node_word ws i h = rw (get_or-take, get_or-drop)

pub slot_word : (ws : List ℕ) (i : ℕ) → i < most_nodes → (record_in ws i).slot ≡ get_or ws (nodes_place + width * i + slot_field) 0
slot_word ws i few =
    let place : nodes_place + (width * i + slot_field) ≡ nodes_place + width * i + 3 = omega arith in
    node_word ws (width * i + slot_field) (omega arith) ∙ ap (λ (k : ℕ). get_or ws k 0) place
