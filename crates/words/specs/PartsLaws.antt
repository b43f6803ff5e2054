-- Laws of `Parts`.
use Rattle.std.specs.Prelude.{ℕ, ◌+◌, ◌-◌, ◌≤◌, ◌≡◌, List, ◌++◌, length, take, drop}
use Rattle.std.proofs.Common.{sym, ap, ap₂, ◌∙◌, append_assoc, arith, length-take, length-drop, length-append, take_at, drop_at, drop-drop, length-take-le, take-take}
use Rattle.std.proofs.lemmas.List.{take-append-le}
use Rattle.words.specs.Parts.{region, put, over}

module _ {A : Type 0} where
  pub region-length : (a k : ℕ) (ws : List A) → a + k ≤ length ws → length (region a k ws) ≡ k
  region-length a k ws h = simp (length-take, length-drop) (omega arith)

  pub put_length : (a k : ℕ) (ys ws : List A) → a + k ≤ length ws → length ys ≡ k → length (put a k ys ws) ≡ length ws
  put_length a k ys ws h e = simp (length-append, length-take, length-drop) (omega arith)

  -- as many items over a run are a part of it
  pub over_put : (a : ℕ) (ys ws : List A) → over a ys ws ≡ put a (length ys) ys ws
  over_put a ys ws =
      append_assoc (take a ws) ys (drop (a + length ys) ws) ∙ ap (λ (l : List A). take a ws ++ (ys ++ l)) (sym (drop-drop (length ys) a ws))

  -- what was put there is there
  pub region_put : (a k : ℕ) (ys ws : List A) → a ≤ length ws → length ys ≡ k → region a k (put a k ys ws) ≡ ys
  region_put a k ys ws h e =
      ap (λ (l : List A). take k l) (drop_at (take a ws) (ys ++ drop k (drop a ws)) a (length-take-le a ws h))
      ∙ take_at ys (drop k (drop a ws)) k e

  -- what lies past a part is as it was
  pub past_put : (a k b : ℕ) (ys ws : List A) → a ≤ length ws → length ys ≡ k → a + k ≤ b → drop b (put a k ys ws) ≡ drop b ws
  past_put a k b ys ws h e far =
      let rest : b ≡ a + k + (b - (a + k)) = omega arith in
      let seam : drop (a + k) (put a k ys ws) ≡ drop (a + k) ws =
      sym (drop-drop k a (put a k ys ws))
      ∙ ap (λ (l : List A). drop k l) (drop_at (take a ws) (ys ++ drop k (drop a ws)) a (length-take-le a ws h))
      ∙ drop_at ys (drop k (drop a ws)) k e
      ∙ drop-drop k a ws in
      ap (λ (j : ℕ). drop j (put a k ys ws)) rest
      ∙ sym (drop-drop (b - (a + k)) (a + k) (put a k ys ws))
      ∙ ap (λ (l : List A). drop (b - (a + k)) l) seam
      ∙ drop-drop (b - (a + k)) (a + k) ws
      ∙ ap (λ (j : ℕ). drop j ws) (sym rest)

  -- and so is what lies before it
  pub before_put : (a k b : ℕ) (ys ws : List A) → a ≤ length ws → b ≤ a → take b (put a k ys ws) ≡ take b ws
  before_put a k b ys ws h near =
      take-append-le b (take a ws) (ys ++ drop k (drop a ws)) (rw (length-take-le a ws h) near) ∙ take-take b a ws near

  -- a part put over another put at the same place
  pub put_put : (a k : ℕ) (xs ys ws : List A) → a ≤ length ws → length xs ≡ k → put a k ys (put a k xs ws) ≡ put a k ys ws
  put_put a k xs ys ws h e =
      ap₂ (λ (p q : List A). p ++ (ys ++ q)) (before_put a k a xs ws h (omega arith))
      (drop-drop k a (put a k xs ws) ∙ past_put a k (a + k) xs ws h e (omega arith) ∙ sym (drop-drop k a ws))
