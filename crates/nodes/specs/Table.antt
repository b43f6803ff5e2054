-- The node table in words: how records lie in a run of words, and what writing records there leaves.
use Rattle.std.specs.Prelude.{ℕ, zero, suc, ◌+◌, ◌*◌, List, [], ◌∷◌, ◌++◌, length, drop, get_or}
use Rattle.nodes.specs.declared.Node.{Node}

-- the words of a record; its number is the first, and the other fields stand so far behind it
abbrev pub width : ℕ
width = 5

abbrev pub depth_field : ℕ
depth_field = 1

abbrev pub run_field : ℕ
run_field = 2

abbrev pub slot_field : ℕ
slot_field = 3

abbrev pub row_field : ℕ
row_field = 4

-- the record in the words of us from k on
abbrev pub node_from : List ℕ → ℕ → Node
node_from us k = record {
  number = get_or us k 0;
  depth = get_or us (k + depth_field) 0;
  run = get_or us (k + run_field) 0;
  slot = get_or us (k + slot_field) 0;
  row = get_or us (k + row_field) 0;
}

-- the record in the first words of us
abbrev pub node_at : List ℕ → Node
node_at us = record { number = get_or us 0 0; depth = get_or us depth_field 0; run = get_or us run_field 0; slot = get_or us slot_field 0; row = get_or us row_field 0 }

-- the first n records of us
unfoldable pub rows : ℕ → List ℕ → List Node
rows zero us = []
rows (suc n) us = node_at us ∷ rows n (drop width us)

abbrev pub words_of : Node → List ℕ
words_of r = r.number ∷ (r.depth ∷ (r.run ∷ (r.slot ∷ (r.row ∷ []))))

unfoldable pub encode : List Node → List ℕ
encode [] = []
encode (r ∷ l) = words_of r ++ encode l

-- the nodes' numbers, in the table's order
unfoldable pub numbers : List Node → List ℕ
numbers [] = []
numbers (r ∷ l) = r.number ∷ numbers l

-- records over a run: what is past them stays
abbrev pub fill : List ℕ → List Node → List ℕ
fill us l = encode l ++ drop (width * length l) us
