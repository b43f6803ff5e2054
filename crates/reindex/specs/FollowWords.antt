-- The entries at their new places, in words: what is left is written from the first word on, and what is past it stays.
use Rattle.std.specs.Prelude.{ℕ, suc, ◌+◌, ◌-◌, ◌≤◌, ◌<◌, Bool, true, false, ◌≡◌, refl, length, take, drop, get_or, set, ltb}
use Rattle.std.proofs.Common.{sym, ap₂, ◌∙◌, arith, add-one, lt-ltb, le-ltb, length-append, get_or-drop, get_or-append-add, take-suc, take_at, drop-cons}
use Rattle.std.proofs.Math.Path.{ap}
use mathlib.Core.List.{List, [], ◌∷◌, ◌++◌, append_assoc, append-nil}
use Rattle.std.proofs.lemmas.List.{set_at}
use Rattle.words.specs.Choice.{pick}
use Rattle.reindex.specs.Follow.{gone, followed}

-- words that hold so many entries: places below that count, each once
pub record Entries (ws : List ℕ) (count : ℕ) : Type 0 where
  pub many : count ≤ length ws
  pub few : count ≤ gone
  pub below : (i : ℕ) → i < count → get_or ws i 0 < count
  pub differ : (i j : ℕ) → i < j → j < count → get_or ws i 0 ≡ get_or ws j 0 → ⊥

-- what following leaves: the entries that are left, and past them the words as they were
pub record Followed (to : ℕ → ℕ) (before : List ℕ) (count : ℕ) (after : List ℕ) (r : ℕ) : Type 0 where
  pub words : after ≡ followed to (take count before) ++ drop r before
  pub size : r ≡ length (followed to (take count before))

-- the entries that are left
pub followed_entries : (to : ℕ → ℕ) (before : List ℕ) (count : ℕ) (after : List ℕ) (r : ℕ) → Followed to before count after r → take r after ≡ followed to (take count before)
followed_entries to before count after r f = ap (λ (l : List ℕ). take r l) f.words ∙ take_at (followed to (take count before)) (drop r before) r (sym f.size)

followed-append : (to : ℕ → ℕ) (a b : List ℕ) → followed to (a ++ b) ≡ followed to a ++ followed to b
unfolding followed
followed-append to [] b = refl
followed-append to (p ∷ a) b = go (followed-append to a b) (ltb (to p) gone)
  where
    go : followed to (a ++ b) ≡ followed to a ++ followed to b → (x : Bool)
        → pick x (to p ∷ followed to (a ++ b)) (followed to (a ++ b)) ≡ pick x (to p ∷ followed to a) (followed to a) ++ followed to b
    go ih true = ap (λ (l : List ℕ). to p ∷ l) ih
    go ih false = ih

-- no entry gone over yet
pub follow_first : (to : ℕ → ℕ) (w : List ℕ) → Followed to w 0 w 0
unfolding followed
follow_first to w = record { words = refl; size = refl }

-- one entry, at i, where `left` were left of those before it
module _ (to : ℕ → ℕ) (w ws : List ℕ) (i left : ℕ) (h : i < length w) (near : left ≤ i) (f : Followed to w i ws left) where
  -- it is as it was
  pub follow_read : get_or ws i 0 ≡ get_or w i 0
  follow_read =
      let at : i ≡ length (followed to (take i w)) + (i - left) = omega (arith, f.size) in
      let back : left + (i - left) ≡ i = omega arith in
      ap₂ (λ (l : List ℕ) (k : ℕ). get_or l k 0) f.words at
      ∙ get_or-append-add (followed to (take i w)) (drop left w) (i - left) 0
      ∙ get_or-drop left w (i - left) 0
      ∙ ap (λ (k : ℕ). get_or w k 0) back

  -- and so a place that has a node
  pub read_low : (count : ℕ) → Entries w count → i < count → get_or ws i 0 < gone
  read_low count e k = omega (arith, follow_read, e.few, e.below i k)

  module _ (v : ℕ) (is : v ≡ to (get_or ws i 0)) where
    moved : v ≡ to (get_or w i 0)
    moved = is ∙ ap (λ (p : ℕ). to p) follow_read

    turn : followed to (take (i + 1) w) ≡ followed to (take i w) ++ pick (ltb v gone) (v ∷ []) []
    unfolding followed
    turn =
        ap (λ (k : ℕ). followed to (take k w)) (add-one i)
        ∙ ap (λ (l : List ℕ). followed to l) (take-suc w i 0 h)
        ∙ followed-append to (take i w) (get_or w i 0 ∷ [])
        ∙ ap (λ (x : ℕ). followed to (take i w) ++ pick (ltb x gone) (x ∷ []) []) (sym moved)

    -- it goes
    pub follow_gone : gone ≤ v → Followed to w (i + 1) ws left
    follow_gone e =
        let less : followed to (take i w) ≡ followed to (take (i + 1) w) = sym ((rw (le-ltb v gone e) at turn) ∙ append-nil (followed to (take i w))) in
        record { words = f.words ∙ ap (λ (l : List ℕ). l ++ drop left w) less; size = f.size ∙ ap (λ (l : List ℕ). length l) less }

    -- it is left, at its new place
    pub follow_kept : v < gone → Followed to w (i + 1) (set ws left v) (left + 1)
    follow_kept e = record {
      words =
          ap (λ (l : List ℕ). set l left v) (f.words ∙ ap (λ (l : List ℕ). followed to (take i w) ++ l) (drop-cons w left 0 (omega arith)))
          ∙ set_at (followed to (take i w)) (get_or w left 0) (drop (suc left) w) v left (sym f.size)
          ∙ sym (append_assoc (followed to (take i w)) (v ∷ []) (drop (suc left) w))
          ∙ ap₂ (λ (l : List ℕ) (k : ℕ). l ++ drop k w) (sym kept) (sym (add-one left));
      size = ap (λ (k : ℕ). k + 1) f.size ∙ sym (ap (λ (l : List ℕ). length l) kept ∙ length-append (followed to (take i w)) (v ∷ []));
    }
      where
        kept : followed to (take (i + 1) w) ≡ followed to (take i w) ++ v ∷ []
        kept = rw (lt-ltb v gone e) at turn
