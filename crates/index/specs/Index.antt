-- The index: the places of the nodes in the table, by rising number.
use Rattle.std.specs.Prelude.{ℕ, zero, suc, Bool, true, List, [], ◌∷◌, length, get_or, ltb, leb, eqb}
use Rattle.words.specs.Choice.{pick, both}
use Rattle.nodes.specs.declared.Node.{Node}
use Rattle.nodes.specs.Table.{numbers}

-- of the numbers ks, the one at a place
abbrev pub number_at : List ℕ → ℕ → ℕ
number_at ks p = get_or ks p 0

-- every entry is a place below n, and the numbers there rise: each is at least `least`, which is one more than the number before it
unfoldable pub rises : List ℕ → ℕ → ℕ → List ℕ → Bool
rises ks n least [] = true
rises ks n least (p ∷ ix) = both (ltb p n) (both (leb least (number_at ks p)) (rises ks n (suc (number_at ks p)) ix))

-- the rule of the well-formed state: as many entries as nodes, each a node's place, and the nodes' numbers rise along them
abbrev pub indexed : List ℕ → List Node → Bool
indexed ix t = both (eqb (length ix) (length t)) (rises (numbers t) (length t) 0 ix)

-- a place put among others, before the first whose number is higher
unfoldable pub put_in : List ℕ → ℕ → List ℕ → List ℕ
put_in ks p [] = p ∷ []
put_in ks p (q ∷ ix) = pick (ltb (number_at ks p) (number_at ks q)) (p ∷ (q ∷ ix)) (q ∷ put_in ks p ix)

-- the first n places, put in one by one; and the index worked out afresh
unfoldable pub by_number : List ℕ → ℕ → List ℕ
by_number ks zero = []
by_number ks (suc n) = put_in ks n (by_number ks n)

abbrev pub index_of : List Node → List ℕ
index_of t = by_number (numbers t) (length t)
