-- The rules of a well-formed state on nodes, each as a test: what refusal 1 asks of the table, the next number and the latest synth.
use Rattle.std.specs.Prelude.{ℕ, zero, suc, ◌+◌, Bool, true, false, List, [], ◌∷◌, length, ltb, leb, eqb}
use Rattle.words.specs.Choice.{pick, both, either}
use Rattle.nodes.specs.declared.Node.{Node}
use Rattle.nodes.specs.Place.{group_slot, is_group, lives}

-- "256 nodes with the root"
abbrev pub most_nodes : ℕ
most_nodes = 256

abbrev pub count_formed : List Node → Bool
count_formed t = both (leb 1 (length t)) (leb (length t) most_nodes)

-- how deep the record after this one may be: one deeper than a group, as deep as a synth
abbrev pub reach : Node → ℕ
reach r = pick (is_group r) (r.depth + 1) r.depth

-- every record below the root, and none deeper than the one before it lets it be
unfoldable pub steps : ℕ → List Node → Bool
steps most [] = true
steps most (r ∷ l) = both (ltb 0 r.depth) (both (leb r.depth most) (steps (reach r) l))

-- "Root: group 0, always live": the first record, with all others below it
unfoldable pub rooted : List Node → Bool
rooted [] = false
rooted (r ∷ l) = both (eqb r.number 0) (both (eqb r.depth 0) (both (is_group r) (steps 1 l)))

-- no number stands twice, so that none but the root's is 0
unfoldable pub apart : List Node → Bool
apart [] = true
apart (r ∷ l) = pick (lives r.number l) false (apart l)

-- "For -1 the engine gives -8, then -9 and so on, never one twice, the last being -2,147,483,648"
-- the patterns of -8 and of -2,147,483,648
abbrev pub first_given : ℕ
first_given = 4294967288

abbrev pub last_given : ℕ
last_given = 2147483648

-- the next number's pattern, where last_given - 1 says that none is left
abbrev pub none_left : ℕ
none_left = 2147483647

abbrev pub next_formed : ℕ → Bool
next_formed next = both (leb none_left next) (leb next first_given)

-- a number is not negative, or was given to a synth: at most -8, and before the next one
abbrev pub number_formed : ℕ → Node → Bool
number_formed next r = either (ltb r.number last_given) (both (leb r.number first_given) (both (ltb next r.number) (pick (is_group r) false true)))

-- a run flag is 0 or 1; a slot is a definition's, or says that it is a group; a synth's row of controls is one of 256
abbrev pub most_rows : ℕ
most_rows = 256

abbrev pub row_formed : Node → Bool
row_formed r = pick (is_group r) true (ltb r.row most_rows)

abbrev pub fields_formed : ℕ → Node → Bool
fields_formed next r = both (number_formed next r) (both (leb r.run 1) (both (leb r.slot group_slot) (row_formed r)))

unfoldable pub all_formed : ℕ → List Node → Bool
all_formed next [] = true
all_formed next (r ∷ l) = both (fields_formed next r) (all_formed next l)

-- the record is a synth with the row k
abbrev pub in_row : ℕ → Node → Bool
in_row k r = pick (is_group r) false (eqb r.row k)

-- a synth of the table has the row k
unfoldable pub row_taken : ℕ → List Node → Bool
row_taken k [] = false
row_taken k (r ∷ l) = either (in_row k r) (row_taken k l)

-- the lowest row from k on that no synth of the table has, of n rows; and of all rows, 256 where there is none
unfoldable pub free_row_from : ℕ → ℕ → List Node → ℕ
free_row_from zero k t = k
free_row_from (suc n) k t = pick (row_taken k t) (free_row_from n (k + 1) t) k

abbrev pub free_row : List Node → ℕ
free_row t = free_row_from most_rows 0 t

-- no two synths have one row
unfoldable pub rows_apart : List Node → Bool
rows_apart [] = true
rows_apart (r ∷ l) = both (pick (is_group r) true (pick (row_taken r.row l) false true)) (rows_apart l)

-- a synth of the table has the number n
unfoldable pub synth_lives : ℕ → List Node → Bool
synth_lives n [] = false
synth_lives n (r ∷ l) = either (pick (is_group r) false (eqb r.number n)) (synth_lives n l)

-- "the latest synth isn't a live synth or none": none is 0
abbrev pub latest_formed : ℕ → List Node → Bool
latest_formed latest t = either (eqb latest 0) (synth_lives latest t)

-- the rules together, of the next number, the latest synth and the table
unfoldable pub nodes_formed : ℕ → ℕ → List Node → Bool
nodes_formed next latest t =
    both (count_formed t) (both (rooted t) (both (apart t) (both (all_formed next t) (both (rows_apart t) (both (next_formed next) (latest_formed latest t))))))
