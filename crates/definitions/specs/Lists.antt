-- Facts of lists.
use Rattle.std.specs.Prelude.{ℕ, suc, ◌+◌, ◌≡◌, List, [], ◌∷◌, ◌++◌, length, set}
use Rattle.std.proofs.Common.{ap, arith, zero-add}

module _ {A : Type 0} where
  pub set-append_add : (xs ys : List A) (n : ℕ) (a : A) → set (xs ++ ys) (length xs + n) a ≡ xs ++ set ys n a
  set-append_add [] ys n a = rw zero-add
  set-append_add (x ∷ xs) ys n a =
      let more : suc (length xs) + n ≡ suc (length xs + n) = omega arith in
      rw more (ap (λ (l : List A). x ∷ l) (set-append_add xs ys n a))
