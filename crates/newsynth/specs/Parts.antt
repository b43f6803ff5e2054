-- A part put in after the first words.
use Rattle.std.specs.Prelude.{ℕ, zero, suc, ◌+◌, ◌≤◌, ◌≡◌, List, [], ◌∷◌, length, drop}
use Rattle.std.proofs.Common.{sym, ap, ◌∙◌, arith}
use Rattle.words.specs.Parts.{put}
use Rattle.model.specs.Layout.{put_header}

-- what is dropped lies before the part
drop_put : (n b m : ℕ) (zs ws : List ℕ) → n + b ≤ length ws → drop n (put (n + b) m zs ws) ≡ put b m zs (drop n ws)
drop_put zero b m zs ws h =
    let none : 0 + b ≡ b = omega arith in
    ap (λ (j : ℕ). put j m zs ws) none
drop_put (suc n) b m zs [] h = absurd (omega arith)
drop_put (suc n) b m zs (w ∷ ws) h =
    let more : suc n + b ≡ suc (n + b) = omega arith in
    ap (λ (j : ℕ). drop (suc n) (put j m zs (w ∷ ws))) more ∙ drop_put n b m zs ws (omega arith)

-- a part past the first words
pub header_put : (p q r s b m : ℕ) (zs ws : List ℕ) → 4 + b ≤ length ws → put (4 + b) m zs (put_header p q r s ws) ≡ put_header p q r s (put (4 + b) m zs ws)
header_put p q r s b m zs ws h =
    let more : 4 + b ≡ suc (suc (suc (suc b))) = omega arith in
    ap (λ (j : ℕ). put j m zs (put_header p q r s ws)) more
    ∙ ap (λ (l : List ℕ). p ∷ (q ∷ (r ∷ (s ∷ l)))) (sym (drop_put 4 b m zs ws h))
