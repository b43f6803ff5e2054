-- Where each part of the engine lies in the lent words and in the lent arena. docs/LAYOUT.md says the same in words.
use Rattle.std.specs.Prelude.{ℕ, ◌+◌, ◌*◌, List, ◌∷◌, ◌++◌, length, take, drop, get_or, replicate}
use Rattle.words.specs.Parts.{region, put}
use Rattle.format.specs.Reader.{size_limit}
use Rattle.nodes.specs.declared.Node.{Node}
use Rattle.nodes.specs.Table.{width, rows, fill, node_from}
use Rattle.nodes.specs.Formed.{most_nodes}

-- "256 nodes with the root; 32 definition slots; 32 parameters and 2,048 encoded bytes to a definition"; "4,096 control buses"
abbrev pub slot_count : ℕ
slot_count = 32

abbrev pub bus_count : ℕ
bus_count = 4096

-- a slot's room in the arena: that of the longest definition
abbrev pub slot_room : ℕ
slot_room = size_limit

-- the words of a control, its own float and its mapping, and of a row of controls
abbrev pub control_words : ℕ
control_words = 2

abbrev pub row_controls : ℕ
row_controls = 32

abbrev pub row_words : ℕ
row_words = control_words * row_controls

-- the first words: node count, order length, next number, latest synth
abbrev pub header_words : ℕ
header_words = 4

-- the parts behind them, each from the end of the one before on
abbrev pub lengths_place : ℕ
lengths_place = header_words

abbrev pub resident_place : ℕ
resident_place = lengths_place + slot_count

abbrev pub nodes_place : ℕ
nodes_place = resident_place + slot_count

abbrev pub nodes_words : ℕ
nodes_words = width * most_nodes

abbrev pub order_place : ℕ
order_place = nodes_place + nodes_words

-- "never exceeds 255 numbers"
abbrev pub order_words : ℕ
order_words = 255

abbrev pub controls_place : ℕ
controls_place = order_place + order_words

abbrev pub controls_words : ℕ
controls_words = row_words * most_nodes

abbrev pub buses_place : ℕ
buses_place = controls_place + controls_words

abbrev pub index_place : ℕ
index_place = buses_place + bus_count

abbrev pub index_words : ℕ
index_words = most_nodes

-- the lengths of the words and of the arena
abbrev pub words_length : ℕ
words_length = index_place + index_words

abbrev pub arena_length : ℕ
arena_length = slot_room * slot_count

-- the parts in the words
abbrev pub count_in : List ℕ → ℕ
count_in ws = get_or ws 0 0

abbrev pub order_length_in : List ℕ → ℕ
order_length_in ws = get_or ws 1 0

abbrev pub next_in : List ℕ → ℕ
next_in ws = get_or ws 2 0

abbrev pub latest_in : List ℕ → ℕ
latest_in ws = get_or ws 3 0

abbrev pub node_words : List ℕ → List ℕ
node_words ws = region nodes_place nodes_words ws

abbrev pub nodes_in : List ℕ → List Node
nodes_in ws = rows (count_in ws) (node_words ws)

-- the record at a place of the node table
abbrev pub record_in : List ℕ → ℕ → Node
record_in ws at = node_from (node_words ws) (width * at)

abbrev pub lengths_in : List ℕ → List ℕ
lengths_in ws = region lengths_place slot_count ws

abbrev pub flags_in : List ℕ → List ℕ
flags_in ws = region resident_place slot_count ws

abbrev pub order_in : List ℕ → List ℕ
order_in ws = take (order_length_in ws) (region order_place order_words ws)

abbrev pub controls_in : List ℕ → List ℕ
controls_in ws = region controls_place controls_words ws

abbrev pub buses_in : List ℕ → List ℕ
buses_in ws = region buses_place bus_count ws

-- the index has one entry for each node
abbrev pub entries_in : List ℕ → List ℕ
entries_in ws = region index_place index_words ws

abbrev pub index_in : List ℕ → List ℕ
index_in ws = take (count_in ws) (entries_in ws)

-- where the bytes of the slot k start in the arena
abbrev pub start_of : ℕ → ℕ
start_of k = slot_room * k

-- the bytes of the slot k: as many as its length says, at most those of the longest definition
abbrev pub slot_in : List ℕ → ℕ → ℕ → List ℕ
slot_in arena k size = take size (region (start_of k) size_limit arena)

-- the words with a part put in
abbrev pub put_nodes : List Node → List ℕ → List ℕ
put_nodes t ws = put nodes_place nodes_words (fill (node_words ws) t) ws

-- the order region is written whole, zeros past its length
abbrev pub order_region : List ℕ → List ℕ
order_region order = take order_words (order ++ replicate order_words 0)

abbrev pub put_order : List ℕ → List ℕ → List ℕ
put_order order ws = put order_place order_words (order_region order) ws

-- the index from its first word on; the words past it stay
abbrev pub put_index : List ℕ → List ℕ → List ℕ
put_index ix ws = put index_place index_words (ix ++ drop (length ix) (region index_place index_words ws)) ws

abbrev pub put_controls : List ℕ → List ℕ → List ℕ
put_controls cs ws = put controls_place controls_words cs ws

abbrev pub put_buses : List ℕ → List ℕ → List ℕ
put_buses bs ws = put buses_place bus_count bs ws

abbrev pub put_lengths : List ℕ → List ℕ → List ℕ
put_lengths ls ws = put lengths_place slot_count ls ws

abbrev pub put_resident : List ℕ → List ℕ → List ℕ
put_resident fs ws = put resident_place slot_count fs ws

-- the first words
abbrev pub put_header : ℕ → ℕ → ℕ → ℕ → List ℕ → List ℕ
put_header count order_length next latest ws = count ∷ (order_length ∷ (next ∷ (latest ∷ drop header_words ws)))
