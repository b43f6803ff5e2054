-- The numbers of parts of a table.
use Rattle.std.specs.Prelude.{ℕ, zero, suc, ◌≡◌, refl, List, [], ◌∷◌, ◌++◌, length, take, drop}
use Rattle.std.proofs.Common.{ap}
use Rattle.nodes.specs.declared.Node.{Node}
use Rattle.nodes.specs.Table.{numbers}

pub numbers_length : (t : List Node) → length (numbers t) ≡ length t
unfolding numbers
numbers_length [] = refl
numbers_length (r ∷ l) = ap suc (numbers_length l)

pub numbers_append : (a b : List Node) → numbers (a ++ b) ≡ numbers a ++ numbers b
unfolding numbers
numbers_append [] b = refl
numbers_append (r ∷ a) b = ap (λ (l : List ℕ). r.number ∷ l) (numbers_append a b)

pub numbers_take : (n : ℕ) (t : List Node) → numbers (take n t) ≡ take n (numbers t)
unfolding numbers
numbers_take zero [] = refl
numbers_take zero (r ∷ l) = refl
numbers_take (suc n) [] = refl
numbers_take (suc n) (r ∷ l) = ap (λ (m : List ℕ). r.number ∷ m) (numbers_take n l)

pub numbers_drop : (n : ℕ) (t : List Node) → numbers (drop n t) ≡ drop n (numbers t)
unfolding numbers
numbers_drop zero [] = refl
numbers_drop zero (r ∷ l) = refl
numbers_drop (suc n) [] = refl
numbers_drop (suc n) (r ∷ l) = numbers_drop n l
