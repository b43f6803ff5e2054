-- Places in the table: a node's record by its number, and the run of deeper records behind it.
use Rattle.std.specs.Prelude.{ℕ, suc, Bool, true, false, List, [], ◌∷◌, ltb, eqb}
use Rattle.words.specs.Choice.{pick}
use Rattle.nodes.specs.declared.Node.{Node}

-- the slot word of a group
abbrev pub group_slot : ℕ
group_slot = 32

abbrev pub is_group : Node → Bool
is_group r = eqb r.slot group_slot

-- a number stands in the table
unfoldable pub lives : ℕ → List Node → Bool
lives n [] = false
lives n (r ∷ l) = pick (eqb r.number n) true (lives n l)

-- how many records stand before the first with the number n
unfoldable pub place : ℕ → List Node → ℕ
place n [] = 0
place n (r ∷ l) = pick (eqb r.number n) 0 (suc (place n l))

-- how many records from the first on are deeper than d
unfoldable pub deeper : ℕ → List Node → ℕ
deeper d [] = 0
deeper d (r ∷ l) = pick (ltb d r.depth) (suc (deeper d l)) 0
