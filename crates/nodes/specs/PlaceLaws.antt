-- Laws of `Place`.
use Rattle.std.specs.Prelude.{ℕ, suc, ◌+◌, ◌*◌, ◌-◌, ◌≤◌, ◌<◌, Bool, true, false, ◌≡◌, refl, length, drop, get_or, ltb, eqb}
use Rattle.std.proofs.Common.{sym, ap₂, ◌∙◌, arith, length-drop, lt-ltb, le-ltb, ltb-true}
use Rattle.std.proofs.Math.Path.{ap}
use mathlib.Core.List.{List, [], ◌∷◌, nil≢cons, head-eq_of_cons-eq, tail-eq_of_cons-eq}
use Rattle.std.proofs.Math.Dec.{leb-suc-suc}
use Rattle.words.specs.Choice.{pick}
use Rattle.nodes.specs.declared.Node.{Node}
use Rattle.nodes.specs.Table.{width, rows}
use Rattle.nodes.specs.TableLaws.{rows-length, rows_end, row-from}
use Rattle.nodes.specs.Place.{lives, place, deeper}

pub lives_place : (n : ℕ) (l : List Node) → lives n l ≡ ltb (place n l) (length l)
unfolding lives place
lives_place n [] = refl
lives_place n (r ∷ l) = go (lives_place n l) (eqb r.number n)
  where
    go : lives n l ≡ ltb (place n l) (length l) → (b : Bool) → pick b true (lives n l) ≡ ltb (pick b 0 (suc (place n l))) (suc (length l))
    go ih true = sym (lt-ltb 0 (suc (length l)) (omega arith))
    go ih false = ih ∙ sym (leb-suc-suc (suc (place n l)) (length l))

pub place_most : (n : ℕ) (l : List Node) → place n l ≤ length l
unfolding place
place_most n [] = omega arith
place_most n (r ∷ l) = go (place_most n l) (eqb r.number n)
  where
    go : place n l ≤ length l → (b : Bool) → pick b 0 (suc (place n l)) ≤ suc (length l)
    go ih true = omega arith
    go ih false = omega arith

-- a search that stops at the first record with the number n stops at the one at its place
pub search_at : {A : Type 0} (F : List Node → A) (G : Node → List Node → A) (n : ℕ) → ((r : Node) (l : List Node) → F (r ∷ l) ≡ pick (eqb r.number n) (G r l) (F l))
    → (t : List Node) (r : Node) (rest : List Node) → drop (place n t) t ≡ r ∷ rest → F t ≡ G r rest
unfolding place
search_at F G n turn [] r rest h = absurd (nil≢cons h)
search_at F G n turn (x ∷ l) r rest h = turn x l ∙ go (search_at F G n turn l r rest) (eqb x.number n) h
  where
    go : (drop (place n l) l ≡ r ∷ rest → F l ≡ G r rest) → (b : Bool) → drop (pick b 0 (suc (place n l))) (x ∷ l) ≡ r ∷ rest → pick b (G x l) (F l) ≡ G r rest
    go ih true e = ap₂ G (head-eq_of_cons-eq e) (tail-eq_of_cons-eq e)
    go ih false e = ih e

pub deeper_most : (d : ℕ) (l : List Node) → deeper d l ≤ length l
unfolding deeper
deeper_most d [] = omega arith
deeper_most d (r ∷ l) = go (deeper_most d l) (ltb d r.depth)
  where
    go : deeper d l ≤ length l → (b : Bool) → pick b (suc (deeper d l)) 0 ≤ suc (length l)
    go ih true = omega arith
    go ih false = omega arith

-- a run of deeper records starts with each run that it holds
pub nested : (d e : ℕ) (l : List Node) → d ≤ e → deeper d l ≡ deeper e l + deeper d (drop (deeper e l) l)
unfolding deeper
nested d e [] h = refl
nested d e (r ∷ l) h = go (nested d e l h) (ltb e r.depth) refl
  where
    go : deeper d l ≡ deeper e l + deeper d (drop (deeper e l) l) → (b : Bool) → ltb e r.depth ≡ b
        → pick (ltb d r.depth) (suc (deeper d l)) 0 ≡ pick b (suc (deeper e l)) 0 + deeper d (drop (pick b (suc (deeper e l)) 0) (r ∷ l))
    go ih true t =
        let below : e < r.depth = ltb-true e r.depth t in
        let q : ltb d r.depth ≡ true = lt-ltb d r.depth (omega arith) in
        rw q (omega arith)
    go ih false t = omega arith

-- along the first n records of the words us: one step of a run, and its end
module _ (n : ℕ) (us : List ℕ) where
  pub deeper_turn : (d i : ℕ) → i < n → deeper d (drop i (rows n us)) ≡ pick (ltb d (get_or us (width * i + 1) 0)) (suc (deeper d (drop (i + 1) (rows n us)))) 0
  unfolding deeper
  deeper_turn d i h = ap (λ (l : List Node). deeper d l) (row-from n us i h)

  pub deeper_end : (d i : ℕ) → n ≤ i → deeper d (drop i (rows n us)) ≡ 0
  unfolding deeper
  deeper_end d i h = ap (λ (l : List Node). deeper d l) (rows_end n us i h)

  -- what a search found
  pub found : (k : ℕ) → place k (rows n us) < n → lives k (rows n us) ≡ true
  found k h = lives_place k (rows n us) ∙ lt-ltb (place k (rows n us)) (length (rows n us)) (rw rows-length h)

  pub not_found : (k : ℕ) → n ≤ place k (rows n us) → lives k (rows n us) ≡ false
  not_found k h = lives_place k (rows n us) ∙ le-ltb (place k (rows n us)) (length (rows n us)) (rw rows-length h)

  -- a run ends in the table
  pub end_most : (d at : ℕ) → at ≤ n → at + deeper d (drop at (rows n us)) ≤ n
  end_most d at h =
      let size : length (drop at (rows n us)) ≡ n - at = simp (length-drop, rows-length) in
      omega (arith, deeper_most d (drop at (rows n us)))
