-- Parts of the words beside one that was put in.
use Rattle.std.specs.Prelude.{ℕ, zero, suc, ◌+◌, ◌-◌, ◌≤◌, ◌<◌, ◌≡◌, refl, List, [], ◌∷◌, length, take, drop, get_or}
use Rattle.std.proofs.Common.{sym, ap, ◌∙◌, arith, length-drop, drop-drop, take-take, get_or-take}
use Rattle.words.specs.Parts.{region, put}
use Rattle.words.specs.PartsLaws.{put_length, past_put, before_put}
use Rattle.model.specs.Layout.{put_header}

-- a part lies in the front that holds it
front_region : (b m n : ℕ) (l : List ℕ) → b + m ≤ n → region b m (take n l) ≡ region b m l
front_region zero m n l h = take-take m n l (omega arith)
front_region (suc b) m n [] h = go n
  where
    go : (k : ℕ) → region (suc b) m (take k []) ≡ region {A = ℕ} (suc b) m []
    go zero = refl
    go (suc k) = refl
front_region (suc b) m zero (x ∷ l) h = absurd (omega arith)
front_region (suc b) m (suc n) (x ∷ l) h = front_region b m n l (omega arith)

module _ (a k : ℕ) (ys ws : List ℕ) (fits : a + k ≤ length ws) (size : length ys ≡ k) where
  -- a part before it, and one past it
  pub region_before : (b m : ℕ) → b + m ≤ a → region b m (put a k ys ws) ≡ region b m ws
  region_before b m h =
      sym (front_region b m a (put a k ys ws) h)
      ∙ ap (λ (l : List ℕ). region b m l) (before_put a k a ys ws (omega arith) (omega arith))
      ∙ front_region b m a ws h

  pub region_past : (b m : ℕ) → a + k ≤ b → region b m (put a k ys ws) ≡ region b m ws
  region_past b m h = ap (λ (l : List ℕ). take m l) (past_put a k b ys ws (omega arith) size h)

  -- a word before it
  pub word_before : (i : ℕ) → i < a → get_or (put a k ys ws) i 0 ≡ get_or ws i 0
  word_before i h =
      sym (get_or-take a (put a k ys ws) i 0 h)
      ∙ ap (λ (l : List ℕ). get_or l i 0) (before_put a k a ys ws (omega arith) (omega arith))
      ∙ get_or-take a ws i 0 h

  pub put_size : length (put a k ys ws) ≡ length ws
  put_size = put_length a k ys ws fits size

-- the first words put in
module _ (count order_length next latest : ℕ) (ws : List ℕ) (fits : 4 ≤ length ws) where
  pub header-length : length (put_header count order_length next latest ws) ≡ length ws
  header-length = let d : length (drop 4 ws) ≡ length ws - 4 = length-drop 4 ws in omega arith

  pub header-region : (b m : ℕ) → 4 ≤ b → region b m (put_header count order_length next latest ws) ≡ region b m ws
  header-region b m h =
      let e : b ≡ 4 + (b - 4) = omega arith in
      ap (λ (j : ℕ). region j m (put_header count order_length next latest ws)) e
      ∙ ap (λ (l : List ℕ). take m l) (sym (drop-drop (b - 4) 4 (put_header count order_length next latest ws)) ∙ drop-drop (b - 4) 4 ws)
      ∙ ap (λ (j : ℕ). region j m ws) (sym e)
