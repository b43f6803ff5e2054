-- The well-formed state: what refusal 1 asks. "a state buffer has the wrong size, or a rule above on slots, nodes, controls or running order
-- doesn't hold; or a taken
-- slot holds no readable definition, two residents share a name, a live generated number wasn't yet given, or the latest synth isn't a live synth
-- or none."
use Rattle.std.specs.Prelude.{ℕ, zero, suc, ◌+◌, ◌*◌, Bool, true, false, not, List, [], ◌∷◌, length, drop, get_or, leb, eqb}
use Rattle.words.specs.Choice.{pick, both}
use Rattle.format.specs.Read.{Read, got, bad}
use Rattle.format.specs.Definition.{Definition}
use Rattle.format.specs.Reader.{read_definition, size_limit, same_name}
use Rattle.nodes.specs.declared.Node.{Node}
use Rattle.nodes.specs.Place.{is_group}
use Rattle.nodes.specs.Order.{order}
use Rattle.nodes.specs.Formed.{most_nodes}
use Rattle.nodes.specs.Formed as nodes
use Rattle.index.specs.Index.{indexed}
use Rattle.model.specs.Layout.{row_words, bus_count, words_length, arena_length, count_in, next_in, latest_in, order_length_in, order_words, lengths_in, flags_in, nodes_in, order_in, controls_in, index_in}
use Rattle.model.specs.Engine.{Slot, decode, slot_taken, name_in, definition_of}

-- a slot's flag is 0 or 1
unfoldable pub flags_formed : List ℕ → Bool
flags_formed [] = true
flags_formed (f ∷ more) = both (leb f 1) (flags_formed more)

-- the bytes are one readable definition, and nothing else
abbrev pub is_whole : ℕ → Read Definition → Bool
is_whole size (got d next) = eqb next size
is_whole size (bad r at) = false

-- a taken slot's length is at most the limit, and its bytes are one readable definition; of a free slot nothing is asked
abbrev pub slot_formed : ℕ → ℕ → Slot → List Node → Bool
slot_formed k size s t = pick (slot_taken k s t) (both (leb size size_limit) (is_whole size (read_definition s.bytes 0))) true

unfoldable pub slots_formed : ℕ → List ℕ → List Slot → List Node → Bool
slots_formed k sizes [] t = true
slots_formed k sizes (s ∷ more) t = both (slot_formed k (get_or sizes 0 0) s t) (slots_formed (k + 1) (drop 1 sizes) more t)

-- "two residents share a name"
unfoldable pub name_resident : List ℕ → List Slot → Bool
name_resident name [] = false
name_resident name (s ∷ more) = pick (both s.resident (same_name (name_in s) name)) true (name_resident name more)

unfoldable pub names_apart : List Slot → Bool
names_apart [] = true
names_apart (s ∷ more) = both (pick s.resident (not (name_resident (name_in s) more)) true) (names_apart more)

-- "unmapped or mapped to one bus": so many mapping words at most 4,096
unfoldable pub mappings_formed : ℕ → List ℕ → Bool
mappings_formed zero us = true
mappings_formed (suc n) us = both (leb (get_or us 1 0) bus_count) (mappings_formed n (drop 2 us))

-- of each synth's own controls
unfoldable pub controls_formed : List Slot → List ℕ → List Node → Bool
controls_formed slots controls [] = true
controls_formed slots controls (r ∷ l) =
    both (pick (is_group r) true (mappings_formed (length (definition_of slots r).front.values) (drop (row_words * r.row) controls)))
    (controls_formed slots controls l)

-- two lists of numbers are the same
abbrev pub same_numbers : List ℕ → List ℕ → Bool
same_numbers a b = same_name a b

-- "it is kept in the state after each command": the kept order is the one worked out afresh
abbrev pub order_formed : List ℕ → List Node → Bool
order_formed ws t = both (leb (order_length_in ws) order_words) (same_numbers (order_in ws) (order t))

-- "If the new way needs a rule on the state, that rule joins the well formed state, and 1 tests it" (3/14): the index of the nodes, behind their
-- own rules
unfoldable pub formed : List ℕ → List ℕ → Bool
formed ws arena =
    both (eqb (length ws) words_length)
    (both (eqb (length arena) arena_length)
    (both (leb (count_in ws) most_nodes)
    (both (nodes.nodes_formed (next_in ws) (latest_in ws) (nodes_in ws))
    (both (indexed (index_in ws) (nodes_in ws))
    (both (order_formed ws (nodes_in ws))
    (both (flags_formed (flags_in ws))
    (both (slots_formed 0 (lengths_in ws) (decode ws arena).slots (nodes_in ws))
    (both (names_apart (decode ws arena).slots) (controls_formed (decode ws arena).slots (controls_in ws) (nodes_in ws))))))))))
