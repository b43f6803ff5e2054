-- Whether a node lies below another, by their places.
use Rattle.std.specs.Prelude.{ℕ, zero, suc, ◌+◌, ◌*◌, ◌≤◌, ◌<◌, Bool, true, false, ◌≡◌, refl, List, [], ◌∷◌, length, take, drop, ltb, eqb}
use Rattle.std.proofs.Common.{sym, ap, ap₂, ◌∙◌, arith, length-drop, ltb-true, ltb-false, lt-ltb, le-ltb, le-leb, eqb-true}
use Rattle.std.proofs.Math.Dec.{leb-suc-suc}
use Rattle.std.proofs.lemmas.Bool.{lt-leb}
use Rattle.words.specs.Choice.{pick}
use Rattle.words.specs.ChoiceLaws.{either_false}
use Rattle.nodes.specs.declared.Node.{Node}
use Rattle.nodes.specs.Table.{width, node_from, rows}
use Rattle.nodes.specs.TableLaws.{rows-length, row-from}
use Rattle.nodes.specs.Place.{lives, place, deeper}
use Rattle.nodes.specs.PlaceLaws.{end_most}
use Rattle.nodes.specs.Edit.{is_below}
use Rattle.nodes.specs.Split.{run_of_at, lives-sink}
use Rattle.nodes.specs.Formed.{apart}
use Rattle.nodes.specs.Sizes.{depth_at, end_at}
use Rattle.tree.specs.Places.{place_drop}
use Rattle.tree.specs.Ends.{in_run}

-- a number stands among the first records where its place does
lives_front : (n k : ℕ) (l : List Node) → k ≤ length l → lives n (take k l) ≡ ltb (place n l) k
unfolding lives place
lives_front n zero l h = sym (le-ltb (place n l) 0 (omega arith))
lives_front n (suc k) [] h = absurd (omega arith)
lives_front n (suc k) (r ∷ l) h = go (lives_front n k l (omega arith)) (eqb r.number n)
  where
    go : lives n (take k l) ≡ ltb (place n l) k → (b : Bool) → pick b true (lives n (take k l)) ≡ ltb (pick b 0 (suc (place n l))) (suc k)
    go ih true = sym (lt-ltb 0 (suc k) (omega arith))
    go ih false = ih ∙ sym (leb-suc-suc (suc (place n l)) k)

-- a number that does not stand in a list does not stand in a part of it
lives-drop : (n k : ℕ) (l : List Node) → lives n l ≡ false → lives n (drop k l) ≡ false
unfolding lives
lives-drop n zero l h = h
lives-drop n (suc k) [] h = h
lives-drop n (suc k) (r ∷ l) h = lives-drop n k l (either_false (eqb r.number n) (lives n l) h).1

lives-take : (n k : ℕ) (l : List Node) → lives n l ≡ false → lives n (take k l) ≡ false
unfolding lives
lives-take n zero l h = refl
lives-take n (suc k) [] h = h
lives-take n (suc k) (r ∷ l) h =
    let w = either_false (eqb r.number n) (lives n l) h in
    ap₂ (λ (b c : Bool). pick b true c) w.0 (lives-take n k l w.1)

apart-tail : (b c : Bool) → pick b false c ≡ true → (b ≡ false) × (c ≡ true)
apart-tail true c h = ((cc), (cc))
apart-tail false c h = (refl, h)

-- where no number stands twice, one that stands before a place does not stand behind it
apart_behind : (n k : ℕ) (t : List Node) → apart t ≡ true → place n t < k → k ≤ length t → lives n (drop k t) ≡ false
unfolding apart place
apart_behind n zero t h p q = absurd (omega arith)
apart_behind n (suc k) [] h p q = absurd (omega arith)
apart_behind n (suc k) (r ∷ l) h p q = go (apart_behind n k l) (eqb r.number n) refl p
  where
    once : (lives r.number l ≡ false) × (apart l ≡ true)
    once = apart-tail (lives r.number l) (apart l) h

    go : (apart l ≡ true → place n l < k → k ≤ length l → lives n (drop k l) ≡ false) → (b : Bool) → eqb r.number n ≡ b → pick b 0 (suc (place n l)) < suc k → lives n (drop k l) ≡ false
    go ih true e s = lives-drop n k l (ap (λ (x : ℕ). lives x l) (sym (eqb-true r.number n e)) ∙ once.0)
    go ih false e s = ih once.1 (omega arith) (omega arith)

-- the nodes m and n, found at the places a and b of the first c records of us
pub is_below-at : (c : ℕ) (us : List ℕ) (m n a b : ℕ) → a ≡ place m (rows c us) → b ≡ place n (rows c us) → a < c → b < c → apart (rows c us) ≡ true → is_below m n (rows c us) ≡ in_run c us a b
is_below-at c us m n a b here-a here-b live-a live-b once =
    ap (λ (l : List Node). lives m l) (run_of_at c us n b here-b live-b d (end_at c us b) refl refl)
    ∙ lives-sink m d (node_from us (width * b) ∷ take k (drop (b + 1) t))
    ∙ ap (λ (l : List Node). lives m (take (suc k) l)) (sym (row-from c us b live-b))
    ∙ go (ltb a b) refl (ltb a (end_at c us b)) refl
  where
    t : List Node
    t = rows c us

    d : ℕ
    d = depth_at us b

    k : ℕ
    k = deeper d (drop (b + 1) t)

    size : length t ≡ c
    size = rows-length c us

    inside : b + 1 + k ≤ c
    inside = end_most c us d (b + 1) (omega arith)

    short : suc k ≤ length (drop b t)
    short = simp length-drop (omega (arith, size, inside))

    go : (p : Bool) → ltb a b ≡ p → (q : Bool) → ltb a (end_at c us b) ≡ q → lives m (take (suc k) (drop b t)) ≡ in_run c us a b
    go true p q s =
        let before = ltb-true a b p in
        rw (lt-leb b a before) (lives-take m (suc k) (drop b t) (apart_behind m b t once (omega arith) (omega (arith, size))))
    go false p true s =
        let behind = ltb-false a b p in
        let below = ltb-true a (end_at c us b) s in
        let on = place_drop m b t (omega arith) (omega (arith, size)) in
        rw (le-leb b a behind, s) (lives_front m (suc k) (drop b t) short ∙ lt-ltb (place m (drop b t)) (suc k) (omega arith))
    go false p false s =
        let behind = ltb-false a b p in
        let past = ltb-false a (end_at c us b) s in
        let on = place_drop m b t (omega arith) (omega (arith, size)) in
        rw (le-leb b a behind, s) (lives_front m (suc k) (drop b t) short ∙ le-ltb (place m (drop b t)) (suc k) (omega arith))
