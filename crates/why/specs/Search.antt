-- A node's row in the table.
use Rattle.std.specs.Prelude.{ℕ, suc, Bool, true, false, ◌≡◌, refl, drop, eqb}
use Rattle.std.proofs.Common.{sym, ap, ◌∙◌}
use mathlib.Core.List.{List, [], ◌∷◌, ◌++◌, append_assoc, append-nil, nil≢cons, head-eq_of_cons-eq}
use Rattle.std.proofs.Math.Option.{Option, none, some}
use Rattle.words.specs.Choice.{pick}
use Rattle.nodes.specs.declared.Node.{Node}
use Rattle.nodes.specs.Place.{place}
use Rattle.nodes.specs.PlaceLaws.{search_at}
use Rattle.nodes.specs.Structure.{depth_of}
use Rattle.nodes.specs.Forest.{Forest, node, items, has}
use Rattle.nodes.specs.Forest as forest
use Rattle.treerefinement.specs.Flatten.{key}
use Rattle.why.specs.Reasons.{node_of}

-- the first row of a number
unfoldable pub row_of : ℕ → List Node → Option Node
row_of n [] = none
row_of n (r ∷ l) = pick (eqb r.number n) (some r) (row_of n l)

row_items : (n : ℕ) (f : Forest Node) (rest : List Node) → row_of n (items f ++ rest) ≡ pick (has key n f) (node_of key n f) (row_of n rest)
unfolding row_of items has node_of
row_items n forest.none rest = refl
row_items n (node x b a) rest =
    ap (λ (y : Option Node). pick (eqb x.number n) (some x) y)
    (ap (λ (l : List Node). row_of n l) (append_assoc (items b) (items a) rest)
    ∙ row_items n b (items a ++ rest)
    ∙ ap (λ (y : Option Node). pick (has key n b) (node_of key n b) y) (row_items n a rest))
    ∙ go (eqb x.number n) (has key n b)
  where
    go : (p q : Bool) → pick p (some x) (pick q (node_of key n b) (pick (has key n a) (node_of key n a) (row_of n rest)))
        ≡ pick (pick p true (pick q true (has key n a))) (pick p (some x) (pick q (node_of key n b) (node_of key n a))) (row_of n rest)
    go true q = refl
    go false true = refl
    go false false = refl

-- the node of a number that lives is its row
pub node_row : (n : ℕ) (f : Forest Node) (r : Node) (rest : List Node) → has key n f ≡ true → drop (place n (items f)) (items f) ≡ r ∷ rest → node_of key n f ≡ some r
unfolding row_of
node_row n f r rest h e =
    sym (ap (λ (l : List Node). row_of n l) (sym (append-nil (items f))) ∙ row_items n f [] ∙ rw h)
    ∙ search_at (λ l. row_of n l) (λ x l. some x) n (λ x l. refl) (items f) r rest e

pub depth_row : (n : ℕ) (t : List Node) (r : Node) (rest : List Node) → drop (place n t) t ≡ r ∷ rest → depth_of n t ≡ r.depth
unfolding depth_of
depth_row n = search_at (λ l. depth_of n l) (λ r l. r.depth) n (λ r l. refl)

-- it has that number
pub number_row : (n : ℕ) (t : List Node) (r : Node) (rest : List Node) → drop (place n t) t ≡ r ∷ rest → eqb r.number n ≡ true
unfolding place
number_row n [] r rest e = absurd (nil≢cons e)
number_row n (x ∷ l) r rest e = go (eqb x.number n) refl e (number_row n l r rest)
  where
    go : (p : Bool) → eqb x.number n ≡ p → drop (pick p 0 (suc (place n l))) (x ∷ l) ≡ r ∷ rest → (drop (place n l) l ≡ r ∷ rest → eqb r.number n ≡ true) → eqb r.number n ≡ true
    go true h k ih = ap (λ (y : Node). eqb y.number n) (sym (head-eq_of_cons-eq k)) ∙ h
    go false h k ih = ih k
