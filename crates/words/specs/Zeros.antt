-- Zeros written one by one.
use Rattle.std.specs.Prelude.{ℕ, zero, suc, ◌+◌, ◌<◌, ◌≡◌, refl, List, ◌∷◌, ◌++◌, length, drop, get_or, set, replicate}
use Rattle.std.proofs.Common.{sym, ap, ◌∙◌, append-nil, add-one, drop-cons}
use Rattle.std.proofs.lemmas.List.{length-replicate, set_at}
use Rattle.std.proofs.Math.Seq.{drop-length}

-- the first i items zero
abbrev pub zeroed : ℕ → List ℕ → List ℕ
zeroed i l = replicate i 0 ++ drop i l

zeros_snoc : (i : ℕ) (l : List ℕ) → replicate i 0 ++ (0 ∷ l) ≡ replicate (suc i) 0 ++ l
zeros_snoc zero l = refl
zeros_snoc (suc i) l = ap (λ (m : List ℕ). 0 ∷ m) (zeros_snoc i l)

pub zero_turn : (i : ℕ) (l : List ℕ) → i < length l → set (zeroed i l) i 0 ≡ zeroed (i + 1) l
zero_turn i l h =
    ap (λ (m : List ℕ). set (replicate i 0 ++ m) i 0) (drop-cons l i 0 h)
    ∙ set_at (replicate i 0) (get_or l i 0) (drop (suc i) l) 0 i (length-replicate i 0)
    ∙ zeros_snoc i (drop (suc i) l)
    ∙ ap (λ (j : ℕ). zeroed j l) (sym (add-one i))

pub zero_end : (l : List ℕ) → zeroed (length l) l ≡ replicate (length l) 0
zero_end l = ap (λ (m : List ℕ). replicate (length l) 0 ++ m) (drop-length l) ∙ append-nil (replicate (length l) 0)
